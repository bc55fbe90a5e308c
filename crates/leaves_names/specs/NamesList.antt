-- The list of names as a list: what stands at each number, what the least number is, and what a naming makes of the list. A new name joins
-- at the end, the list stays well-formed, and no number is taken back.
-- Assumes nothing.
use Prim.Native.Nat.{ℕ, zero, suc, ◌+◌, ◌≤◌, ◌<◌}
use mathlib.Core.List.{List, [], ◌∷◌, ◌++◌, append_assoc}
use Rattle.std.specs.Prelude.{Bool, true, false, cond, ◌≡◌, get_or, set, take, slice_get, ltb, Option, Some, None, ok_or, Ok}
use Rattle.theory.specs.Answer.{answer}
use Rattle.leaves.specs.Refusal.{refused, answer_with}
use Rattle.leaves.specs.declared.refusal.Refusal.TheVariants.{UnknownSymbol}
use Rattle.std.proofs.lemmas.Option.{none-some, slice_get-get_or, slice_get_past}
use borrow.Author.Tests.{ltb-true, ltb-false}
use Rattle.leaves_names.specs.declared.names.NamePlace.{NamePlace}
use Rattle.std.proofs.lemmas.Bool.{false≢true}
use Rattle.std.proofs.Common.{⊎_elim, ◌∙◌, sym, subst, add-zero, eq-or-lt_of_le, length-set, length-take-le, get_or-set_same, get_or-set_other}
use Rattle.std.proofs.Math.Path.{refl, ap, ap₂}
use native.Mathlib.Omega.{arith}
use Rattle.std.proofs.Math.ListN.{length, drop, get_or-append}
use Rattle.std.proofs.Math.Seq.{slice, take-append-le, take-take, length-paste, drop_at, take-length}
use Rattle.std.proofs.lemmas.List.Edits.{take-paste}
use Rattle.leaves_names.specs.Names.{name_start, name_end, name_of, names_from, names_of, is_name, well_formed, list_fits, same, least, naming, name_written, place_at, place_values, name_end}
use Rattle.leaves_names.specs.NamesLaws.{Formed, Memory, memory_so, start_next, well_formed_lem, same_refl, same_eq}
use Rattle.leaves_names.specs.NamingLaws.{Room, case_old, case_new}
use Rattle.leaves_names.specs.declared.names.Naming.TheVariants.{Old, New}

-- ---- what stands at each number

module _ (bytes ends : List ℕ) where
  from_length : (n k : ℕ) → length (names_from bytes ends n k) ≡ k
  unfolding names_from
  from_length n zero = refl
  from_length n (suc k) = ap suc (from_length (suc n) k)

  from_at : (n k i : ℕ) → i < k → get_or (names_from bytes ends n k) i [] ≡ name_of bytes ends (n + i)
  unfolding names_from
  from_at n zero i h = absurd (omega arith)
  from_at n (suc k) zero h = rw (add-zero n)
  from_at n (suc k) (suc i) h =
      let e : suc n + i ≡ n + suc i = omega arith in
      from_at (suc n) k i (omega arith) ∙ ap (name_of bytes ends) e

  from_last : (n k : ℕ) → names_from bytes ends n (suc k) ≡ names_from bytes ends n k ++ (name_of bytes ends (n + k) ∷ [])
  unfolding names_from
  from_last n zero = rw (add-zero n)
  from_last n (suc k) =
      let e : suc n + k ≡ n + suc k = omega arith in
      ap (λ (l : List (List ℕ)). name_of bytes ends n ∷ l) (from_last (suc n) k ∙ ap (λ (m : ℕ). names_from bytes ends (suc n) k ++ (name_of bytes ends m ∷ [])) e)

  -- as many as there are names in use
  pub names_length : (names : ℕ) → length (names_of bytes ends names) ≡ names
  unfolding names_of
  names_length names = from_length 0 names

  -- name n at place n
  pub names_at : (names n : ℕ) → n < names → get_or (names_of bytes ends names) n [] ≡ name_of bytes ends n
  unfolding names_of
  names_at names n h =
      let e : 0 + n ≡ n = omega arith in
      from_at 0 names n h ∙ ap (name_of bytes ends) e

from_same : (bytes ends bytes' ends' : List ℕ) (n k : ℕ) → ((m : ℕ) → m < n + k → name_of bytes' ends' m ≡ name_of bytes ends m) → names_from bytes' ends' n k ≡ names_from bytes ends n k
unfolding names_from
from_same bytes ends bytes' ends' n zero h = refl
from_same bytes ends bytes' ends' n (suc k) h =
    ap₂ (λ (x : List ℕ) (l : List (List ℕ)). x ∷ l) (h n (omega arith)) (from_same bytes ends bytes' ends' (suc n) k (λ m l. h m (omega arith)))

-- where name n lies, for a name in use
pub record Lies (ends : List ℕ) (names n : ℕ) (p : NamePlace) : Type 0 where
  pub handed : n < names
  pub first : p.first ≡ name_start ends n
  pub end : p.end ≡ name_end ends n

module _ (ends : List ℕ) (names n : ℕ) where
  abbrev there : NamePlace
  there = record { first = name_start ends n; end = name_end ends n }

  pub place_some : {p : NamePlace} → Some p ≡ place_at ends names n → Lies ends names n p
  unfolding place_at
  place_some {p} e = go (ltb n names) refl e
    where
      go : (t : Bool) → ltb n names ≡ t → Some p ≡ cond t (Some there) None → Lies ends names n p
      go true l f =
          let z : p ≡ there = cc in
          record { handed = ltb-true _ _ l; first = ap (λ (x : NamePlace). x.first) z; end = ap (λ (x : NamePlace). x.end) z }
      go false l f = absurd (none-some _ (sym f))

  pub place_none : None ≡ place_at ends names n → names ≤ n
  unfolding place_at
  place_none e = go (ltb n names) refl e
    where
      go : (t : Bool) → ltb n names ≡ t → None ≡ cond t (Some there) None → names ≤ n
      go true l f = absurd (none-some _ f)
      go false l f = ltb-false _ _ l

  -- 3 where there is none
  pub place_answer : {p : Option NamePlace} → p ≡ place_at ends names n
      → answer_with place_values (ok_or p UnknownSymbol) ≡ cond (ltb n names) (answer 0 (name_start ends n ∷ name_end ends n ∷ [])) (refused UnknownSymbol)
  unfolding place_at
  place_answer e = rw e (go (ltb n names))
    where
      go : (t : Bool) → answer_with place_values (ok_or (cond t (Some there) None) UnknownSymbol) ≡ cond t (answer 0 (name_start ends n ∷ name_end ends n ∷ [])) (refused UnknownSymbol)
      go true = refl
      go false = refl

module _ (bytes ends : List ℕ) (names n : ℕ) where
  pub got_some : n < names → slice_get (names_of bytes ends names) n ≡ Some (name_of bytes ends n)
  got_some h =
      let l = names_length bytes ends names in
      slice_get-get_or (names_of bytes ends names) n [] (omega arith) ∙ ap Some (names_at bytes ends names n h)

  pub got_none : names ≤ n → slice_get (names_of bytes ends names) n ≡ None
  got_none h =
      let l = names_length bytes ends names in
      slice_get_past (names_of bytes ends names) n (omega arith)

-- ---- the least number

-- what the number n is among the names xs: it is a name's number or the count of them; it is that of an equal name; none before it is
pub record Least (name : List ℕ) (xs : List (List ℕ)) (n : ℕ) : Type 0 where
  pub most : n ≤ length xs
  pub equal : n < length xs → get_or xs n [] ≡ name
  pub first : (i : ℕ) → i < n → get_or xs i [] ≡ name → ⊥

least_head : (name x : List ℕ) (xs : List (List ℕ)) (u : Bool) → same name x ≡ u → Least name xs (least name xs) → Least name (x ∷ xs) (least name (x ∷ xs))
unfolding least
least_head name x xs true e l =
    let z : cond (same name x) 0 (suc (least name xs)) ≡ 0 = rw e in
    rw z record { most = omega arith; equal = λ h. sym (same_eq name x e); first = λ i h q. absurd (omega arith) }
least_head name x xs false e l =
    let z : cond (same name x) 0 (suc (least name xs)) ≡ suc (least name xs) = rw e in
    let m = l.most in
    rw z
    record {
      most = omega arith;
      equal = λ h. l.equal (omega arith);
      first =
          elim [
            | zero ↦ λ h q. false≢true (sym e ∙ ap (same name) q ∙ same_refl name)
            | suc i ↦ λ h q. l.first i (omega arith) q
          ];
    }

-- the least number is what its name says
pub least_is : (name : List ℕ) (xs : List (List ℕ)) → Least name xs (least name xs)
unfolding least
least_is name [] = record { most = omega arith; equal = λ h. absurd (omega arith); first = λ i h q. absurd (omega arith) }
least_is name (x ∷ xs) = least_head name x xs (same name x) refl (least_is name xs)

-- ---- one name more

module _ (bytes ends : List ℕ) (names name_bytes : ℕ) (name : List ℕ) (m : Memory (length bytes) (length ends) names name_bytes) (f : Formed bytes ends names name_bytes) (v : is_name name ≡ true) (r : Room (length bytes) (length ends) names name_bytes (length name)) where
  abbrev bytes' : List ℕ
  bytes' = name_written bytes name_bytes name

  abbrev ends' : List ℕ
  ends' = set ends names (name_bytes + length name)

  pub bytes_length : length bytes' ≡ length bytes
  unfolding name_written
  bytes_length =
      let h = r.held in
      length-paste bytes name_bytes name (length name) h (omega arith)

  pub ends_length : length ends' ≡ length ends
  ends_length = length-set ends names (name_bytes + length name)

  end_old : (n : ℕ) → n < names → name_end ends' n ≡ name_end ends n
  end_old n h = get_or-set_other ends names n (name_bytes + length name) 0 (λ e. omega arith)

  end_new : name_end ends' names ≡ name_bytes + length name
  end_new = let p = r.place in get_or-set_same ends names (name_bytes + length name) 0 (omega arith)

  start_old : (n : ℕ) → n ≤ names → name_start ends' n ≡ name_start ends n
  unfolding name_start
  start_old zero h = refl
  start_old (suc n) h = end_old n h

  before : (t : ℕ) → t ≤ name_bytes → take t bytes' ≡ take t bytes
  unfolding name_written
  before t h =
      let l = r.held in
      let e : t ≤ length (take name_bytes bytes) = rw (length-take-le name_bytes bytes (omega arith)) h in
      ap (take t) (append_assoc (take name_bytes bytes) (take (length name) name) (drop (name_bytes + length name) bytes))
      ∙ take-append-le t (take name_bytes bytes) (take (length name) name ++ drop (name_bytes + length name) bytes) e
      ∙ take-take t name_bytes bytes h

  -- an old name keeps its number
  pub name_old : (n : ℕ) → n < names → name_of bytes' ends' n ≡ name_of bytes ends n
  unfolding name_of
  name_old n h =
      ap₂ (λ (s t : ℕ). slice s t bytes') (start_old n (omega arith)) (end_old n h)
      ∙ ap (drop (name_start ends n)) (before (name_end ends n) (f.under n h))

  -- the new one has the next
  pub name_new : name_of bytes' ends' names ≡ name
  unfolding name_of name_written
  name_new =
      let l = r.held in
      ap₂ (λ (s t : ℕ). slice s t bytes') (start_old names (omega arith) ∙ f.last) end_new
      ∙ ap (drop name_bytes) (take-paste bytes name_bytes name (length name) (omega arith) (omega arith))
      ∙ drop_at (take name_bytes bytes) (take (length name) name) name_bytes (length-take-le name_bytes bytes (omega arith))
      ∙ take-length name

  -- the list is the list before with the name at its end
  pub names_after : names_of bytes' ends' (names + 1) ≡ names_of bytes ends names ++ (name ∷ [])
  unfolding names_of
  names_after =
      let e : names + 1 ≡ suc names = omega arith in
      let z : 0 + names ≡ names = omega arith in
      ap (names_from bytes' ends' 0) e
      ∙ from_last bytes' ends' 0 names
      ∙ ap₂ (λ (l : List (List ℕ)) (x : List ℕ). l ++ (x ∷ []))
      (from_same bytes ends bytes' ends' 0 names (λ n h. name_old n (omega arith)))
      (ap (name_of bytes' ends') z ∙ name_new)

  case : (P : ℕ → Type 0) → ((n : ℕ) → n < names → P n) → P names → (n : ℕ) → n < names + 1 → P n
  case P old new n h = ⊎_elim (λ e. subst P (sym e) new) (λ l. old n l) (eq-or-lt_of_le (omega arith))

  -- and well-formed
  pub formed_after : Formed bytes' ends' (names + 1) (name_bytes + length name)
  formed_after =
      record {
        rising =
            case (λ (n : ℕ). name_start ends' n ≤ name_end ends' n) (λ n h. let q = f.rising n h in omega (arith, start_old n (omega arith), end_old n h))
            (omega (arith, start_old names (omega arith), f.last, end_new));
        under =
            case (λ (n : ℕ). name_end ends' n ≤ name_bytes + length name) (λ n h. let q = f.under n h in omega (arith, end_old n h)) (omega (arith, end_new));
        valid =
            case (λ (n : ℕ). is_name (name_of bytes' ends' n) ≡ true) (λ n h. ap is_name (name_old n h) ∙ f.valid n h) (ap is_name name_new ∙ v);
        last = start_next ends' names ∙ end_new;
      }

  pub memory_after_lem : Memory (length bytes') (length ends') (names + 1) (name_bytes + length name)
  memory_after_lem =
      record {
        few = let q = m.few in omega (arith, ends_length);
        small = let q = m.small in omega (arith, bytes_length);
        held = let q = r.place in omega (arith, ends_length);
        room = let q = r.held in omega (arith, bytes_length);
      }

-- ---- what naming makes of the list

-- an old name: its number is the least with equal bytes
pub record Known (bytes ends : List ℕ) (names : ℕ) (name : List ℕ) (k : ℕ) : Type 0 where
  pub handed : k < names
  pub is : get_or (names_of bytes ends names) k [] ≡ name
  pub first : (i : ℕ) → i < k → get_or (names_of bytes ends names) i [] ≡ name → ⊥

pub named_old : (bytes ends : List ℕ) (names name_bytes : ℕ) (name : List ℕ) {k : ℕ} → naming bytes ends names name_bytes name ≡ Ok (Old k) → Known bytes ends names name k
named_old bytes ends names name_bytes name {k} e =
    let c = case_old bytes ends names name_bytes name e in
    let l = subst (Least name (names_of bytes ends names)) (sym c.1) (least_is name (names_of bytes ends names)) in
    let n = names_length bytes ends names in
    let h = c.2 in
    record { handed = h; is = l.equal (omega arith); first = l.first }

-- a new name: it was under no number, gets the next one and joins at the end; the earlier names keep theirs; list and memory stay sound
pub record Joined (bytes ends : List ℕ) (names name_bytes : ℕ) (name : List ℕ) (k : ℕ) : Type 0 where
  pub next : k ≡ names
  pub absent : (i : ℕ) → i < names → get_or (names_of bytes ends names) i [] ≡ name → ⊥
  pub list : names_of (name_written bytes name_bytes name) (set ends names (name_bytes + length name)) (names + 1) ≡ names_of bytes ends names ++ (name ∷ [])
  pub kept : (i : ℕ) → i < names → get_or (names_of (name_written bytes name_bytes name) (set ends names (name_bytes + length name)) (names + 1)) i [] ≡ get_or (names_of bytes ends names) i []
  pub formed : well_formed (name_written bytes name_bytes name) (set ends names (name_bytes + length name)) (names + 1) (name_bytes + length name) ≡ true
  pub memory : list_fits (length (name_written bytes name_bytes name)) (length (set ends names (name_bytes + length name))) (names + 1) (name_bytes + length name) ≡ true

pub named_new : (bytes ends : List ℕ) (names name_bytes : ℕ) (name : List ℕ) {k : ℕ} → naming bytes ends names name_bytes name ≡ Ok (New k) → Joined bytes ends names name_bytes name k
named_new bytes ends names name_bytes name e =
    let c = case_new bytes ends names name_bytes name e in
    let m = c.0.memory in
    let f = c.0.formed in
    let v = c.0.valid in
    let r = c.3 in
    let n = names_length bytes ends names in
    let a = names_after bytes ends names name_bytes name m f v r in
    record {
      next = c.1;
      absent = λ i h q. (least_is name (names_of bytes ends names)).first i (omega (arith, c.2)) q;
      list = a;
      kept =
          λ i h. ap (λ (l : List (List ℕ)). get_or l i []) a ∙ get_or-append (names_of bytes ends names) (name ∷ []) [] i (omega arith);
      formed = well_formed_lem _ _ _ _ (formed_after bytes ends names name_bytes name m f v r);
      memory = memory_so _ _ _ _ (memory_after_lem bytes ends names name_bytes name m f v r);
    }
