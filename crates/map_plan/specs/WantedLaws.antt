-- What the steps of a mapping call's judgement show. Assumes nothing.
use Rattle.std.specs.Prelude.{◌≡◌, ◌≢◌, ◌⊎◌, ℕ, ◌+◌, ◌-◌, ◌≤◌, ◌<◌, Bool, true, false, ◌&&◌, List, [], take, ltb, eqb, Option, Some, None, Result, Ok, Err}
use Rattle.std.proofs.Math.Path.{refl, sym, ap}
use Rattle.std.proofs.Common.{◌∙◌, inl, inr}
use native.Mathlib.Omega.{arith}
use Rattle.std.proofs.Math.Bool.{cond}
use Rattle.std.proofs.lemmas.Bool.{false≢true}
use Rattle.std.proofs.lemmas.Slice.{between_is}
use Rattle.std.proofs.Math.ListN.{length, drop}
use Rattle.std.proofs.Math.Seq.{take-length}
use borrow.Author.Tests.{ltb-false, lt-ltb, le-ltb, le-leb, eq-eqb, ne_eqb}
use Rattle.theory.specs.Answer.{Answer, answer}
use Rattle.theory.specs.Fields.{field}
use Rattle.leaves.specs.Refusal.{refused, number_of}
use Rattle.leaves.specs.declared.refusal.Refusal.TheVariants.{Reversed, NoNameRoom, BadName, IllFormed, BadMemory}
use Rattle.leaves.specs.declared.refusal.Refusal.{Refusal}
use Rattle.leaves.specs.Frame.{Read, whole, ended, damaged, Mapped, other, symbol, not_one, mapping_start, of_kind, one_record, frame_at, mapped_in, mapped_of, mapping_of, name_in}
use Rattle.leaves.specs.FrameLaws.{mapped_other, mapped_symbol, mapped_refused}
use Rattle.leaves.specs.RefusalLaws.{refused_all, refused_not_done}
use Rattle.leaves.specs.declared.frame.Mapping.{Mapping}
use Rattle.leaves_names.specs.Names.{list_fits, well_formed, names_of, least, is_name, has_room, numbering, check_names}
use Rattle.leaves_names.specs.declared.names.Naming.{Naming}
use Rattle.leaves_names.specs.declared.names.Naming.TheVariants.{Old, New}
use Rattle.leaves_names.specs.NamesLaws.{memory}
use Rattle.leaves_names.specs.NamingLaws.{room}
use Rattle.map_rules.specs.Table.{names_fit}
use Rattle.map_plan.specs.Wanted.{Wanted, nothing, refuses, numbering_in, numbered, is_new, wanted, judged, after_check, judged_by, Lies}
use Rattle.map_plan.specs.declared.planning.Store.{Store}

-- ---- the number of a valid name

pub few_names : (bytes places names name_bytes : ℕ) → list_fits bytes places names name_bytes ≡ true → names ≤ 4096
few_names bytes places names name_bytes m = let l = memory bytes places names name_bytes m in omega (arith, l.few, l.held)

-- where a name is new there is room for it
pub room_for : (bytes ends : List ℕ) (names name_bytes : ℕ) (name : List ℕ) {x : Naming} → Ok x ≡ numbering_in bytes ends names name_bytes name → is_new x ≡ true
    → (names < length ends) × (name_bytes + length name ≤ length bytes) × (name_bytes + length name < 4294967296)
unfolding numbering_in numbering
room_for bytes ends names name_bytes name {x} e n =
    go (ltb (least name (names_of bytes ends names)) names) (has_room (length bytes) (length ends) names name_bytes (length name)) refl e
  where
    go : (a b : Bool) → has_room (length bytes) (length ends) names name_bytes (length name) ≡ b
        → Ok x ≡ cond a (Ok (Old (least name (names_of bytes ends names)))) (cond b (Ok (New names)) (Err NoNameRoom))
        → (names < length ends) × (name_bytes + length name ≤ length bytes) × (name_bytes + length name < 4294967296)
    go true b f q = let z : false ≡ true = cc in absurd (false≢true z)
    go false true f q =
        let r = room (length bytes) (length ends) names name_bytes (length name) f in
        (omega (arith, r.place), r.held, omega (arith, r.small))
    go false false f q = let z : ◌≡◌ {A = ℕ} 0 1 = cc in absurd (omega arith)

pub lies : (bytes ends : List ℕ) (names name_bytes : ℕ) (rec : List ℕ) (x : Store) → x.name.now ≡ name_in rec
    → Ok x.naming ≡ numbering_in bytes ends names name_bytes (name_in rec) → Lies bytes ends names name_bytes rec x
lies bytes ends names name_bytes rec x e f =
    let r = room_for bytes ends names name_bytes (name_in rec) f in
    let l : length x.name.now ≡ length (name_in rec) = ap length e in
    record { name = e; places = λ n. (r n).0; room = λ n. omega (arith, l, (r n).1); small = λ n. omega (arith, l, (r n).2) }

-- ---- what the record asks

pub two : {A : Type 0} (b : Bool) (x y : A) (P : A → Type 0) → P (cond b x y) → ((b ≡ true) × P x) ⊎ ((b ≡ false) × P y)
two true x y P h = inl (refl, h)
two false x y P h = inr (refl, h)

-- a symbol mapping has room for its two times
symbol_kind : (b : List ℕ) (kind instrument : ℕ) {i s e : ℕ} → of_kind b kind instrument ≡ symbol i s e → 32 ≤ length b
unfolding of_kind
symbol_kind b kind instrument {i} {s} {e} h =
    let time = mapping_start (field 8 b 16) in
    let inner = cond (ltb (length b - 16) 16) (not_one 4) (symbol instrument time (field 8 b 24)) in
    go (two (eqb kind 2) inner other (λ (m : Mapped). m ≡ symbol i s e) h)
  where
    last : (m : Mapped) → ((ltb (length b - 16) 16 ≡ true) × (not_one 4 ≡ symbol i s e)) ⊎ ((ltb (length b - 16) 16 ≡ false) × (m ≡ symbol i s e)) → 32 ≤ length b
    last m (inl p) = let f = p.1 in let z : ◌≡◌ {A = ℕ} 0 1 = cc in absurd (omega arith)
    last m (inr p) = omega (arith, ltb-false (length b - 16) 16 p.0)

    go : ((eqb kind 2 ≡ true) × (cond (ltb (length b - 16) 16) (not_one 4) (symbol instrument (mapping_start (field 8 b 16)) (field 8 b 24)) ≡ symbol i s e)) ⊎ ((eqb kind 2 ≡ false) × (other ≡ symbol i s e)) → 32 ≤ length b
    go (inl p) = last _ (two (ltb (length b - 16) 16) (not_one 4) _ (λ (m : Mapped). m ≡ symbol i s e) p.1)
    go (inr p) = let f = p.1 in let z : ◌≡◌ {A = ℕ} 0 1 = cc in absurd (omega arith)

symbol_one : (b : List ℕ) (r : Read) {i s e : ℕ} → one_record b r ≡ symbol i s e → 32 ≤ length b
unfolding one_record
symbol_one b ended h = let z : ◌≡◌ {A = ℕ} 0 1 = cc in absurd (omega arith)
symbol_one b (damaged reason) h = let z : ◌≡◌ {A = ℕ} 0 1 = cc in absurd (omega arith)
symbol_one b (whole size kind instrument time) {i} {s} {e} h =
    go (two (eqb size (length b)) (of_kind b kind instrument) (not_one 3) (λ (m : Mapped). m ≡ symbol i s e) h)
  where
    go : ((eqb size (length b) ≡ true) × (of_kind b kind instrument ≡ symbol i s e)) ⊎ ((eqb size (length b) ≡ false) × (not_one 3 ≡ symbol i s e)) → 32 ≤ length b
    go (inl p) = symbol_kind b kind instrument p.1
    go (inr p) = let f = p.1 in let z : ◌≡◌ {A = ℕ} 0 1 = cc in absurd (omega arith)

abbrev asking : Bool → List ℕ → List ℕ → List ℕ → ℕ → ℕ → Mapped → Wanted
asking over_time bytes ends rec names name_bytes m = wanted over_time bytes ends names name_bytes (name_in rec) m

module _ (over_time : Bool) (bytes ends rec : List ℕ) (names name_bytes : ℕ) {a : Result (Option Mapping) Refusal} (e : mapping_of a ≡ mapped_of (length rec) (mapped_in rec)) where
  pub asked_other : a ≡ Ok None → nothing ≡ asking over_time bytes ends rec names name_bytes (mapped_in rec)
  unfolding wanted
  asked_other f = ap (asking over_time bytes ends rec names name_bytes) (sym (mapped_other (length rec) (mapped_in rec) (sym (ap mapping_of f) ∙ e)))

  pub asked_refused : {r : Refusal} → a ≡ Err r → refuses (refused r) ≡ asking over_time bytes ends rec names name_bytes (mapped_in rec)
  unfolding wanted
  asked_refused {r} f =
      let g : refused r ≡ mapped_of (length rec) (mapped_in rec) = sym (ap mapping_of f) ∙ e in
      let m = mapped_refused (length rec) (mapped_in rec) r g in
      ap refuses (g ∙ ap (mapped_of (length rec)) m.1) ∙ ap (asking over_time bytes ends rec names name_bytes) (sym m.1)

  module _ {m : Mapping} (f : a ≡ Ok (Some m)) where
    asked : (mapped_in rec ≡ symbol m.instrument m.start m.end) × (m.name_from ≡ 32) × (m.name_to ≡ length rec)
    asked = mapped_symbol (length rec) m.instrument m.start m.end m.name_from m.name_to (mapped_in rec) (sym (ap mapping_of f) ∙ e)

    -- where the name lies
    pub asked_bounds : (m.name_from ≤ m.name_to) × (m.name_to ≤ length rec)
    unfolding mapped_in
    asked_bounds =
        let l : 32 ≤ length rec = symbol_one rec (frame_at rec 0) asked.0 in
        (omega (arith, asked.1, asked.2), omega (arith, asked.2))

    pub asked_name : take (m.name_to - m.name_from) (drop m.name_from rec) ≡ name_in rec
    asked_name = between_is rec m.name_from m.name_to ∙ (λ q. drop (asked.1 q) (take (asked.2 q) rec)) ∙ ap (drop 32) (take-length rec)

    -- what becomes of it
    pub asked_naming : {x : Result Naming Refusal}
        → x ≡ numbering (length bytes) (length ends) names name_bytes (length (take (m.name_to - m.name_from) (drop m.name_from rec))) (least (take (m.name_to - m.name_from) (drop m.name_from rec)) (names_of bytes ends names))
        → x ≡ numbering_in bytes ends names name_bytes (name_in rec)
    unfolding numbering_in
    asked_naming x = x ∙ ap (numbering_in bytes ends names name_bytes) asked_name

    module _ {b : Bool} (g : b ≡ is_name (take (m.name_to - m.name_from) (drop m.name_from rec))) where
      named : {v : Bool} → b ≡ v → is_name (name_in rec) ≡ v
      named h = ap is_name (sym asked_name) ∙ sym g ∙ h

      pub asked_bad : b ≡ false → refuses (refused BadName) ≡ asking over_time bytes ends rec names name_bytes (mapped_in rec)
      unfolding wanted
      asked_bad h = sym (ap (asking over_time bytes ends rec names name_bytes) asked.0 ∙ rw (named h) refl)

      module _ (h : b ≡ true) where
        pub asked_reversed : over_time ≡ true → m.end < m.start → refuses (refused Reversed) ≡ asking over_time bytes ends rec names name_bytes (mapped_in rec)
        unfolding wanted
        asked_reversed o l = sym (ap (asking over_time bytes ends rec names name_bytes) asked.0 ∙ rw (named h, o, lt-ltb m.end m.start l) refl)

        pub asked_empty : over_time ≡ true → m.start ≡ m.end → nothing ≡ asking over_time bytes ends rec names name_bytes (mapped_in rec)
        unfolding wanted
        asked_empty o l =
            let not_less : m.start ≤ m.end = omega arith in
            sym (ap (asking over_time bytes ends rec names name_bytes) asked.0 ∙ rw (named h, o, le-ltb m.end m.start not_less, eq-eqb m.start m.end l) refl)

        -- what becomes of the name is stored, or 5
        pub asked_stored : (over_time ≡ true → m.start < m.end)
            → numbered m.instrument m.start m.end (numbering_in bytes ends names name_bytes (name_in rec)) ≡ asking over_time bytes ends rec names name_bytes (mapped_in rec)
        unfolding wanted
        asked_stored l = sym (ap (asking over_time bytes ends rec names name_bytes) asked.0 ∙ rw (named h) (go over_time l))
          where
            go : (o : Bool) → (o ≡ true → m.start < m.end)
                → cond (o && ltb m.end m.start) (refuses (refused Reversed))
                (cond (o && eqb m.start m.end) nothing (numbered m.instrument m.start m.end (numbering_in bytes ends names name_bytes (name_in rec))))
                ≡ numbered m.instrument m.start m.end (numbering_in bytes ends names name_bytes (name_in rec))
            go false l = refl
            go true l =
                let apart : m.start ≢ m.end = omega (arith, l refl) in
                let not_less : m.start ≤ m.end = omega (arith, l refl) in
                rw (le-ltb m.end m.start not_less, ne_eqb m.start m.end apart) refl

-- ---- the tests of memory, table and list

refused_after : (r : Refusal) (w : Wanted) → after_check (refused r) w ≡ refuses (refused r)
refused_after r w = refused_all (λ (a : Answer). after_check a w ≡ refuses a) (λ n values. refl) r

module _ (checked : Answer) (bytes ends : List ℕ) (names name_bytes : ℕ) (w : Wanted) where
  abbrev judge : Wanted
  judge = judged_by checked bytes ends names name_bytes w

  pub judged_memory : list_fits (length bytes) (length ends) names name_bytes ≡ false → refuses (refused BadMemory) ≡ judge
  unfolding judged_by
  judged_memory f = rw f refl

  module _ (f : list_fits (length bytes) (length ends) names name_bytes ≡ true) where
    pub judged_table : (r : Refusal) → refused r ≡ checked → refuses (refused r) ≡ judge
    unfolding judged_by
    judged_table r q = rw (f, ← q) (sym (refused_after r _))

    pub judged_list : answer 0 [] ≡ checked → well_formed bytes ends names name_bytes ≡ false → refuses (refused IllFormed) ≡ judge
    unfolding judged_by
    judged_list q k = rw (f, ← q, k) refl

    -- by the list's own check
    pub judged_checked : (r : Refusal) → answer 0 [] ≡ checked → refused r ≡ check_names bytes ends names name_bytes → refuses (refused r) ≡ judge
    unfolding judged_by check_names
    judged_checked r q e = rw (f, ← q) (go (well_formed bytes ends names name_bytes) (rw f at e))
      where
        go : (b : Bool) → refused r ≡ cond b (answer 0 []) (refused IllFormed) → refuses (refused r) ≡ cond b w (refuses (refused IllFormed))
        go true g = let z : number_of r ≡ 0 = cc in absurd (refused_not_done r z)
        go false g = ap refuses g

    pub judged_on : answer 0 [] ≡ checked → well_formed bytes ends names name_bytes ≡ true → w ≡ judge
    unfolding judged_by
    judged_on q k = rw (f, ← q, k) refl

-- a table's check tests its memory, then its form: so a call is judged by the rules' order
pub judged_same : (fits well : Bool) (bytes ends : List ℕ) (names name_bytes : ℕ) (w : Wanted)
    → judged_by (cond (fits && names_fit names) (cond well (answer 0 []) (answer 14 [])) (answer 15 [])) bytes ends names name_bytes w ≡ judged fits well bytes ends names name_bytes w
unfolding judged_by judged names_fit
judged_same fits well bytes ends names name_bytes w = go fits well (list_fits (length bytes) (length ends) names name_bytes) refl
  where
    go : (a b l : Bool) → list_fits (length bytes) (length ends) names name_bytes ≡ l
        → judged_by (cond (a && names_fit names) (cond b (answer 0 []) (answer 14 [])) (answer 15 [])) bytes ends names name_bytes w ≡ judged a b bytes ends names name_bytes w
    go true b false e = rw e refl
    go false b false e = rw e refl
    go false b true e = rw e refl
    go true true true e = rw (e, le-leb names 4096 (few_names _ _ _ _ e)) refl
    go true false true e = rw (e, le-leb names 4096 (few_names _ _ _ _ e)) refl
