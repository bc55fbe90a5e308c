-- What a case of naming says and what naming promises, over the walks of NamesLaws. Assumes nothing.
use Rattle.std.specs.Prelude.{ℕ, ◌+◌, ◌≤◌, ◌<◌, List, [], ◌∷◌, Bool, true, false, cond, ◌&&◌, ◌≡◌, refl, leb, ltb, length, Some, None, Result, Ok, Err}
use Rattle.std.proofs.Common.{ap, arith}
use Rattle.std.proofs.Math.Path.{sym}
use Rattle.std.proofs.lemmas.Option.{none-some}
use borrow.Author.Tests.{lt-ltb, le-ltb, leb-true, ltb-true, ltb-false}
use Rattle.theory.specs.Bools.{and_left, and_right}
use Rattle.leaves_names.specs.Names.{names_of, is_name, well_formed, list_fits, least, has_room, numbering, naming, name_start, name_end, found, check_names, place_of_name}
use Rattle.theory.specs.Answer.{Answer, answer}
use Rattle.leaves.specs.Refusal.{number_of, refused}
use Rattle.leaves.specs.RefusalLaws.{refused_not_done, refused_one}
use Rattle.leaves.specs.declared.refusal.Refusal.{Refusal}
use Rattle.leaves_names.specs.declared.names.Naming.{Naming}
use Rattle.leaves.specs.declared.refusal.Refusal.TheVariants.{UnknownSymbol, BadName, NoNameRoom, IllFormed, BadMemory}
use Rattle.leaves_names.specs.declared.names.Naming.TheVariants.{Old, New}
use Rattle.leaves_names.specs.NamesLaws.{Memory, memory, Formed, formed}

-- ---- the case of a valid name

pub numbered_old : (bytes places names name_bytes size number : ℕ) {r : ℕ} → r ≡ number → r < names → Ok (Old r) ≡ numbering bytes places names name_bytes size number
unfolding numbering
numbered_old bytes places names name_bytes size number e h =
    let l : number < names = omega arith in
    rw (lt-ltb number names l) (ap (λ (n : ℕ). Ok (Old n)) e)

pub numbered_fresh : (bytes places names name_bytes size number : ℕ) {r : ℕ} → r ≡ number → names ≤ r
    → numbering bytes places names name_bytes size number ≡ cond (has_room bytes places names name_bytes size) (Ok (New names)) (Err NoNameRoom)
unfolding numbering
numbered_fresh bytes places names name_bytes size number e h =
    let l : names ≤ number = omega arith in
    rw (le-ltb number names l)

-- ---- what was found

module _ (name : List ℕ) (xs : List (List ℕ)) where
  pub found_some : {n : ℕ} → n ≡ least name xs → n < length xs → Some n ≡ found name xs
  unfolding found
  found_some {n} e h =
      let l : least name xs < length xs = omega arith in
      rw (lt-ltb _ _ l) (ap Some e)

  pub found_none : {n : ℕ} → n ≡ least name xs → length xs ≤ n → None ≡ found name xs
  unfolding found
  found_none e h =
      let l : length xs ≤ least name xs = omega arith in
      rw (le-ltb _ _ l)

  pub some_found : {n : ℕ} → Some n ≡ found name xs → (n ≡ least name xs) × (n < length xs)
  unfolding found
  some_found {n} e = go (ltb (least name xs) (length xs)) refl e
    where
      go : (t : Bool) → ltb (least name xs) (length xs) ≡ t → Some n ≡ cond t (Some (least name xs)) None → (n ≡ least name xs) × (n < length xs)
      go true l f = let z : n ≡ least name xs = cc in (z, omega (arith, ltb-true _ _ l))
      go false l f = absurd (none-some _ (sym f))

  pub none_found : None ≡ found name xs → length xs ≤ least name xs
  unfolding found
  none_found e = go (ltb (least name xs) (length xs)) refl e
    where
      go : (t : Bool) → ltb (least name xs) (length xs) ≡ t → None ≡ cond t (Some (least name xs)) None → length xs ≤ least name xs
      go true l f = absurd (none-some _ f)
      go false l f = ltb-false _ _ l

-- ---- what a case of naming says

cond_ok : (t : Bool) (x : Result Naming Refusal) (r : Refusal) {k : Naming} → cond t x (Err r) ≡ Ok k → (t ≡ true) × (x ≡ Ok k)
cond_ok true x r e = (refl, e)
cond_ok false x r e = let z : ◌≡◌ {A = ℕ} 0 1 = cc in absurd (omega arith)

not_old : (t : Bool) (n : ℕ) (x : Result Naming Refusal) {k : ℕ} → cond t (Ok (Old n)) x ≡ Ok (New k) → (t ≡ false) × (x ≡ Ok (New k))
not_old true n x e = let z : ◌≡◌ {A = ℕ} 0 1 = cc in absurd (omega arith)
not_old false n x e = (refl, e)

is_old : (t u : Bool) (n m : ℕ) (r : Refusal) {k : ℕ} → cond t (Ok (Old n)) (cond u (Ok (New m)) (Err r)) ≡ Ok (Old k) → (t ≡ true) × (n ≡ k)
is_old true u n m r e = (refl, cc)
is_old false true n m r e = let z : ◌≡◌ {A = ℕ} 0 1 = cc in absurd (omega arith)
is_old false false n m r e = let z : ◌≡◌ {A = ℕ} 0 1 = cc in absurd (omega arith)

-- a valid name in a well-formed list in lent memory
pub record Nameable (bytes ends : List ℕ) (names name_bytes : ℕ) (name : List ℕ) : Type 0 where
  pub memory : Memory (length bytes) (length ends) names name_bytes
  pub formed : Formed bytes ends names name_bytes
  pub valid : is_name name ≡ true

-- room for one name more, of so many bytes
pub record Room (bytes places names name_bytes size : ℕ) : Type 0 where
  pub few : names + 1 ≤ 4096
  pub small : name_bytes + size ≤ 65536
  pub place : names + 1 ≤ places
  pub held : name_bytes + size ≤ bytes

pub room : (bytes places names name_bytes size : ℕ) → has_room bytes places names name_bytes size ≡ true → Room bytes places names name_bytes size
unfolding has_room
room bytes places names name_bytes size e =
    let p = and_left (leb (names + 1) 4096 && leb (name_bytes + size) 65536 && leb (names + 1) places) (leb (name_bytes + size) bytes) e in
    let q = and_left (leb (names + 1) 4096 && leb (name_bytes + size) 65536) (leb (names + 1) places) p in
    record {
      few = leb-true _ _ (and_left (leb (names + 1) 4096) (leb (name_bytes + size) 65536) q);
      small = leb-true _ _ (and_right (leb (names + 1) 4096) (leb (name_bytes + size) 65536) q);
      place = leb-true _ _ (and_right (leb (names + 1) 4096 && leb (name_bytes + size) 65536) (leb (names + 1) places) p);
      held = leb-true _ _ (and_right (leb (names + 1) 4096 && leb (name_bytes + size) 65536 && leb (names + 1) places) (leb (name_bytes + size) bytes) e);
    }

module _ (bytes ends : List ℕ) (names name_bytes : ℕ) (name : List ℕ) {k : ℕ} where
  -- an old name has the least number with equal bytes
  pub case_old : naming bytes ends names name_bytes name ≡ Ok (Old k) → Nameable bytes ends names name_bytes name × (k ≡ least name (names_of bytes ends names)) × (k < names)
  unfolding naming numbering
  case_old e =
      let a = cond_ok (list_fits (length bytes) (length ends) names name_bytes) _ _ e in
      let b = cond_ok (well_formed bytes ends names name_bytes) _ _ a.1 in
      let c = cond_ok (is_name name) _ _ b.1 in
      let d = is_old (ltb (least name (names_of bytes ends names)) names) (has_room (length bytes) (length ends) names name_bytes (length name)) _ _ _ c.1 in
      let l : least name (names_of bytes ends names) < names = ltb-true _ _ d.0 in
      (record { memory = memory _ _ _ _ a.0; formed = formed _ _ _ _ b.0; valid = c.0 }, sym d.1, omega (arith, d.1))

  -- a new name has the next number, is in the list under no number, and there is room for it
  pub case_new : naming bytes ends names name_bytes name ≡ Ok (New k)
      → Nameable bytes ends names name_bytes name × (k ≡ names) × (names ≤ least name (names_of bytes ends names)) × Room (length bytes) (length ends) names name_bytes (length name)
  unfolding naming numbering
  case_new e =
      let a = cond_ok (list_fits (length bytes) (length ends) names name_bytes) _ _ e in
      let b = cond_ok (well_formed bytes ends names name_bytes) _ _ a.1 in
      let c = cond_ok (is_name name) _ _ b.1 in
      let d = not_old (ltb (least name (names_of bytes ends names)) names) _ _ c.1 in
      let f = cond_ok (has_room (length bytes) (length ends) names name_bytes (length name)) _ _ d.1 in
      let g = f.1 in (
        record { memory = memory _ _ _ _ a.0; formed = formed _ _ _ _ b.0; valid = c.0 },
        cc,
        ltb-false _ _ d.0,
        room _ _ _ _ _ f.0,
      )

-- ---- what the check of a list says of naming and of a name's place

done_or_refused : (r : Refusal) {vs : List ℕ} → refused r ≡ answer 0 vs → ⊥
done_or_refused r e = let z : number_of r ≡ 0 = cc in refused_not_done r z

module _ (bytes ends : List ℕ) (names name_bytes : ℕ) (r : Refusal) (e : refused r ≡ check_names bytes ends names name_bytes) where
  pub naming_refused : (name : List ℕ) → Err r ≡ naming bytes ends names name_bytes name
  unfolding check_names naming
  naming_refused name = go (list_fits (length bytes) (length ends) names name_bytes) (well_formed bytes ends names name_bytes) _ e
    where
      go : (f g : Bool) (x : Result Naming Refusal) → refused r ≡ cond f (cond g (answer 0 []) (refused IllFormed)) (refused BadMemory)
          → Err r ≡ cond f (cond g x (Err IllFormed)) (Err BadMemory)
      go true true x h = absurd (done_or_refused r h)
      go true false x h = ap Err (refused_one r IllFormed h)
      go false g x h = ap Err (refused_one r BadMemory h)

  pub place_refused : (n : ℕ) → refused r ≡ place_of_name bytes ends names name_bytes n
  unfolding check_names place_of_name
  place_refused n = go (list_fits (length bytes) (length ends) names name_bytes) (well_formed bytes ends names name_bytes) _ e
    where
      go : (f g : Bool) (x : Answer) → refused r ≡ cond f (cond g (answer 0 []) (refused IllFormed)) (refused BadMemory)
          → refused r ≡ cond f (cond g x (refused IllFormed)) (refused BadMemory)
      go true true x h = absurd (done_or_refused r h)
      go true false x h = h
      go false g x h = h

module _ (bytes ends : List ℕ) (names name_bytes : ℕ) (f : list_fits (length bytes) (length ends) names name_bytes ≡ true) (g : well_formed bytes ends names name_bytes ≡ true) where
  pub naming_checked : (name : List ℕ) → naming bytes ends names name_bytes name
      ≡ cond (is_name name) (numbering (length bytes) (length ends) names name_bytes (length name) (least name (names_of bytes ends names))) (Err BadName)
  unfolding naming
  naming_checked name = rw (f, g)

  pub place_checked : (n : ℕ) → place_of_name bytes ends names name_bytes n
      ≡ cond (ltb n names) (answer 0 (name_start ends n ∷ name_end ends n ∷ [])) (refused UnknownSymbol)
  unfolding place_of_name
  place_checked n = rw (f, g)
