-- What the stores of an entry into a point-in-time table leave. Assumes nothing.
use Rattle.std.specs.Prelude.{◌≡◌, ℕ, suc, ◌+◌, ◌-◌, ◌*◌, ◌/◌, ◌≤◌, ◌<◌, Bool, true, false, cond, length, get_or, set, take, drop, T, ltb, leb}
use Rattle.std.proofs.Math.Path.{refl, sym, ap}
use Rattle.std.proofs.Common.{◌∙◌, zero-add, add-one, arith, length-append, le-leb, leb-true}
use mathlib.Core.List.{List, [], ◌∷◌, ◌++◌}
use Rattle.std.proofs.lemmas.List.{set_split}
use Rattle.std.proofs.lemmas.Bool.{lt-leb}
use Rattle.theory.specs.Answer.{Answer, answer}
use Rattle.theory.specs.Fields.{Bytes}
use Rattle.theory.specs.RunsTools.{cond_case}
use Rattle.leaves.specs.Refusal.{refused}
use Rattle.leaves.specs.declared.refusal.Refusal.TheVariants.{NoRoom}
use Rattle.map_point.specs.declared.entries.Entry.{Entry}
use Rattle.map_point.specs.Entries.{entry_at, entries_from, entries, put_entry, put_entries}
use Rattle.map_point.specs.EntriesLaws.{length_entries, take_entries, drop_entries, put_entries_append, put_entries_back, put_entries_comm, entries_put, Small, AllSmall, entries_small}
use Rattle.map_point.specs.Points.{rising, set_entry, has_room, stored_answer, stored_bytes, used_then, entries_then}
use Rattle.map_point.specs.PointsLaws.{place_of, set_at, set_new}
use Rattle.map_point.specs.PointsReads.{EntryPlaced, holds_at, Held, held, not_held, at_place}

-- ---- the stores of an entry

pub held_within : (t : List ℕ) (used place instrument : ℕ) {h : Bool} → used * 8 ≤ length t → h ≡ holds_at t used place instrument → h ≡ true → place * 8 + 8 ≤ length t
held_within t used place instrument fit e f = omega (arith, (held t used place instrument (sym e ∙ f)).within)

-- the first entries as they stand, then one, then others: the one is stored last
put_front : (t : List ℕ) (n p : ℕ) (x : Entry) (ys : List Entry) → Bytes t → p ≤ n
    → put_entries t 0 (take p (entries t n) ++ x ∷ ys) ≡ put_entry (put_entries t (p + 1) ys) p x
unfolding put_entries
put_front t n p x ys h l =
    let first = take p (entries t n) in
    let e : first ≡ entries t p = take_entries t 0 n p l in
    let count : 0 + length first ≡ p = omega (arith, ap length e, length_entries t 0 p) in
    let back : put_entries t 0 first ≡ t = ap (put_entries t 0) e ∙ put_entries_back t 0 p h in
    put_entries_append t 0 first (x ∷ ys)
    ∙ (λ q. put_entries (back q) (count q) (x ∷ ys))
    ∙ ap (λ (k : ℕ). put_entries (put_entry t p x) k ys) (sym (add-one p))
    ∙ sym (put_entries_comm t (p + 1) ys p x (omega arith))

set_small : (x : Entry) (xs : List Entry) → Small x → AllSmall xs → AllSmall (set_entry x xs)
unfolding set_entry
set_small x [] h k = (h, tt)
set_small x (y ∷ ys) h k =
    cond_case AllSmall (ltb y.instrument x.instrument) _ _
    (λ a. (k.0, set_small x ys h k.1))
    (λ a. cond_case AllSmall (ltb x.instrument y.instrument) _ _ (λ b. (h, k)) (λ b. (h, k.1)))

-- the answer, the bytes and the entries in use are those of the entry set
abbrev pub Stores : List ℕ → ℕ → Entry → Answer → List ℕ → Type 0
Stores t used x a t' =
    (a ≡ stored_answer t (set_entry x (entries t used)))
    × ((t' ≡ stored_bytes t (set_entry x (entries t used)))
    × (entries t' (used_then t used (set_entry x (entries t used))) ≡ entries_then t used (set_entry x (entries t used))))

-- what is stored is what is read then
stored_entries : (t : List ℕ) (used : ℕ) (x : Entry) {t' : List ℕ} → Bytes t → Small x → t' ≡ stored_bytes t (set_entry x (entries t used))
    → entries t' (used_then t used (set_entry x (entries t used))) ≡ entries_then t used (set_entry x (entries t used))
unfolding stored_bytes used_then entries_then has_room
stored_entries t used x b h e = rw e (go (leb (length out) (length t / 8)) refl)
  where
    out : List Entry
    out = set_entry x (entries t used)

    go : (r : Bool) → leb (length out) (length t / 8) ≡ r → entries (cond r (put_entries t 0 out) t) (cond r (length out) used) ≡ cond r out (entries t used)
    go true f =
        let l : length out ≤ length t / 8 = leb-true (length out) (length t / 8) f in
        entries_put t 0 out (omega arith) (set_small x (entries t used) h (entries_small t 0 used b))
    go false f = refl

module _ (t : List ℕ) (used : ℕ) (x : Entry) (place : ℕ) (fit : used * 8 ≤ length t) (s : T (rising (entries t used)))
    (p : EntryPlaced t used x.instrument place) where
  abbrev old : List Entry
  old = entries t used

  abbrev out : List Entry
  out = set_entry x old

  -- the outcome where the instrument stands in the table
  out_held : holds_at t used place x.instrument ≡ true → out ≡ take place old ++ x ∷ entries_from t (place + 1) (used - (place + 1))
  out_held e =
      let h : Held t used place x.instrument = held t used place x.instrument e in
      let at : place_of x.instrument old ≡ place = p.exact s in
      let count : length old ≡ used = length_entries t 0 used in
      let g : get_or old (place_of x.instrument old) (entry_at t 0) ≡ entry_at t place = at_place t used x.instrument place p s h.within in
      let a : out ≡ set old (place_of x.instrument old) x = set_at x (entry_at t 0) old (omega (arith, h.within)) (rw g h.own) in
      let b : drop (suc place) old ≡ entries_from t (place + 1) (used - (place + 1)) =
      drop_entries t 0 used (suc place) ∙ (λ q. entries_from t (later q) (used - next q)) in
      a ∙ ap (λ (k : ℕ). set old k x) at ∙ set_split old place x (omega (arith, h.within)) ∙ ap (λ (ys : List Entry). take place old ++ x ∷ ys) b
    where
      later : 0 + suc place ≡ place + 1
      later = omega arith

      next : suc place ≡ place + 1
      next = omega arith

  -- and where it does not
  out_new : holds_at t used place x.instrument ≡ false → out ≡ take place old ++ x ∷ entries_from t place (used - place)
  out_new e =
      let at : place_of x.instrument old ≡ place = p.exact s in
      let count : length old ≡ used = length_entries t 0 used in
      let a : out ≡ take (place_of x.instrument old) old ++ x ∷ drop (place_of x.instrument old) old =
      set_new x (entry_at t 0) old
      (λ h o.
      let l : place < used = omega arith in
      not_held t used place x.instrument e l (rw (at_place t used x.instrument place p s l) at o)) in
      a
      ∙ ap (λ (k : ℕ). take k old ++ x ∷ drop k old) at
      ∙ ap (λ (ys : List Entry). take place old ++ x ∷ ys) (drop_entries t 0 used place ∙ ap (λ (k : ℕ). entries_from t k (used - place)) (zero-add place))

  length_out : (k n : ℕ) → length (take place old ++ x ∷ entries_from t k n) ≡ place + suc n
  length_out k n =
      length-append (take place old) (x ∷ entries_from t k n)
      ∙ (λ q. (ap length (take_entries t 0 used place p.within) ∙ length_entries t 0 place) q + suc (length_entries t k n q))

  held_length : holds_at t used place x.instrument ≡ true → length out ≡ used
  held_length e =
      let h : Held t used place x.instrument = held t used place x.instrument e in
      ap length (out_held e) ∙ length_out (place + 1) (used - (place + 1)) ∙ (let n : place + suc (used - (place + 1)) ≡ used = omega (arith, h.within) in n)

  new_length : holds_at t used place x.instrument ≡ false → length out ≡ used + 1
  new_length e =
      ap length (out_new e) ∙ length_out place (used - place) ∙ (let n : place + suc (used - place) ≡ used + 1 = omega (arith, p.within) in n)

  module _ {h : Bool} (e : h ≡ holds_at t used place x.instrument) where
    has_held : h ≡ true → has_room t out ≡ true
    unfolding has_room
    has_held f = rw (held_length (sym e ∙ f)) (le-leb used (length t / 8) (omega arith))

    has_new : h ≡ false → used < length t / 8 → has_room t out ≡ true
    unfolding has_room
    has_new f l = rw (new_length (sym e ∙ f)) (le-leb (used + 1) (length t / 8) (omega arith))

    has_not : h ≡ false → length t / 8 ≤ used → has_room t out ≡ false
    unfolding has_room
    has_not f l = rw (new_length (sym e ∙ f)) (lt-leb (used + 1) (length t / 8) (omega arith))

    set_held : h ≡ true → answer 0 (used ∷ []) ≡ stored_answer t out
    unfolding stored_answer
    set_held f = rw (has_held f, held_length (sym e ∙ f)) refl

    set_held_bytes : {t' : List ℕ} → Bytes t → h ≡ true → t' ≡ put_entry t place x → t' ≡ stored_bytes t out
    unfolding stored_bytes
    set_held_bytes b f w =
        let l : place < used = (held t used place x.instrument (sym e ∙ f)).within in
        rw (has_held f)
        (w
        ∙ ap (λ (l : List ℕ). put_entry l place x) (sym (put_entries_back t (place + 1) (used - (place + 1)) b))
        ∙ sym (put_front t used place x (entries_from t (place + 1) (used - (place + 1))) b p.within)
        ∙ sym (ap (put_entries t 0) (out_held (sym e ∙ f))))

    set_full : h ≡ false → length t / 8 ≤ used → refused NoRoom ≡ stored_answer t out
    unfolding stored_answer
    set_full f l = rw (has_not f l) refl

    set_full_bytes : h ≡ false → length t / 8 ≤ used → t ≡ stored_bytes t out
    unfolding stored_bytes
    set_full_bytes f l = rw (has_not f l) refl

    set_more : h ≡ false → used < length t / 8 → answer 0 ((used + 1) ∷ []) ≡ stored_answer t out
    unfolding stored_answer
    set_more f l = rw (has_new f l, new_length (sym e ∙ f)) refl

    set_more_bytes : {t₁ t' : List ℕ} → Bytes t → h ≡ false → used < length t / 8 → t₁ ≡ put_entries t (place + 1) (entries_from t place (used - place))
        → t' ≡ put_entry t₁ place x → t' ≡ stored_bytes t out
    unfolding stored_bytes
    set_more_bytes b f l v w =
        rw (has_new f l)
        (w
        ∙ ap (λ (l : List ℕ). put_entry l place x) v
        ∙ sym (put_front t used place x (entries_from t place (used - place)) b p.within)
        ∙ sym (ap (put_entries t 0) (out_new (sym e ∙ f))))

    module _ (b : Bytes t) (small : Small x) where
      all : {a : Answer} {t' : List ℕ} → a ≡ stored_answer t out → t' ≡ stored_bytes t out → Stores t used x a t'
      all a w = (a, (w, stored_entries t used x b small w))

      pub stores_held : {t' : List ℕ} → h ≡ true → t' ≡ put_entry t place x → Stores t used x (answer 0 (used ∷ [])) t'
      stores_held f w = all (set_held f) (set_held_bytes b f w)

      pub stores_full : h ≡ false → length t / 8 ≤ used → Stores t used x (refused NoRoom) t
      stores_full f l = all (set_full f l) (set_full_bytes f l)

      pub stores_more : {t₁ t' : List ℕ} → h ≡ false → used < length t / 8 → t₁ ≡ put_entries t (place + 1) (entries_from t place (used - place)) → t' ≡ put_entry t₁ place x
          → Stores t used x (answer 0 ((used + 1) ∷ [])) t'
      stores_more f l v w = all (set_more f l) (set_more_bytes b f l v w)
