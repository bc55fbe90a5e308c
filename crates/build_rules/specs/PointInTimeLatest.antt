-- A later entry of a point-in-time build takes the earlier one's place; entries laid over fewer entries. Assumes nothing.
use Rattle.std.specs.Prelude.{◌≡◌, refl, ℕ, zero, suc, ◌+◌, ◌-◌, ◌*◌, ◌/◌, ◌%◌, ◌≤◌, ◌<◌, Bool, true, false, cond, length, get_or, set, ltb}
use Rattle.std.proofs.Common.{sym, ap, ◌∙◌, arith, length-set, get_or-set_same, get_or-set_other, ext_get_or}
use Rattle.std.proofs.Math.Decide.{dec_lt, ℕ_discrete}
use mathlib.Core.List.{List, [], ◌∷◌}
use Rattle.std.proofs.Math.ListN.{get_or-eq_default}
use Rattle.theory.specs.Fields.{put_field, length_put}
use Rattle.theory.specs.RunsTools.{ltb_case}
use Rattle.map_rules.specs.Table.{refused_by, stored, if_room}
use Rattle.map_point.specs.declared.entries.Entry.{Entry}
use Rattle.map_point.specs.Entries.{put_entry, put_entries}
use Rattle.map_point.specs.EntriesLaws.{length_put_entry, put_entry_byte, length_put_entries}
use Rattle.map_point.specs.Points.{symbol_for, set_entry}
use Rattle.map_point.specs.PointsLaws.{after, latest}
use Rattle.metadata_rules.specs.Metadata.{Mapping, Metadata}
use Rattle.build_rules.specs.Reading.{Read, value, day_in, direction_of}
use Rattle.build_rules.specs.declared.reading.Direction.{Direction}
use Rattle.build_rules.specs.OverTime.{Step, stop, skip, give, Build, stopped, built, onward}
use Rattle.build_rules.specs.PointInTime.{counting, point_step, place_of, point_taken, pick_mapping, pick_mappings, outside_query, on_day, asked, point_in_time}

-- ---- "A later entry for one instrument replaces the earlier one"

-- a mapping's entry before those set so far
unfoldable pub onto : Step Entry → List Entry → List Entry
onto (stop c) es = es
onto skip es = es
onto (give e) es = e ∷ es

-- the entries that the mappings set, the latest first
unfoldable pub settings : List (List ℕ) → Direction → ℕ → List Mapping → List Entry → List Entry
unfolding onto point_step counting
settings texts d day [] es = es
settings texts d day (m ∷ ms) es = settings texts d day ms (onto (point_step texts d m.name (counting day 0 m.intervals)) es)

module _ (room : ℕ) (texts : List (List ℕ)) (d : Direction) (day : ℕ) where
  picked_after : (ms : List Mapping) (t : ℕ) (es out : List Entry) → pick_mappings room texts d day t ms (after es) ≡ built out → out ≡ after (settings texts d day ms es)
  unfolding pick_mappings pick_mapping point_taken if_room onward settings onto after
  picked_after [] t es out e = cc
  picked_after (m ∷ ms) t es out e = go (point_step texts d m.name (counting day 0 m.intervals)) (picked_after ms (t + 1)) e
    where
      rest : List Entry → Build Entry
      rest = pick_mappings room texts d day (t + 1) ms

      place : ℕ
      place = place_of (counting day 0 m.intervals)

      roomy : (b : Bool) (x : Entry) → ((us out : List Entry) → rest (after us) ≡ built out → out ≡ after (settings texts d day ms us))
          → onward t place rest (cond b (refused_by 2) (stored (set_entry x (after es)))) ≡ built out → out ≡ after (settings texts d day ms (x ∷ es))
      roomy true x f e = let z : ◌≡◌ {A = ℕ} 0 1 = cc in absurd (omega arith)
      roomy false x f e = f (x ∷ es) out e

      go : (s : Step Entry) → ((us out : List Entry) → rest (after us) ≡ built out → out ≡ after (settings texts d day ms us))
          → onward t place rest (point_taken room s (after es)) ≡ built out → out ≡ after (settings texts d day ms (onto s es))
      go (stop c) f e = let z : ◌≡◌ {A = ℕ} 0 1 = cc in absurd (omega arith)
      go skip f e = f es out e
      go (give x) f e = roomy (ltb room (length (set_entry x (after es)))) x f e

-- an instrument's symbol in the built table is that of the latest entry set for it, and one for which none was set has none
pub point_latest : (room : ℕ) (texts : List (List ℕ)) (m : Metadata) (date : ℕ) {d : Direction} {day : ℕ} {es : List Entry}
    → direction_of m.fields ≡ value d → day_in date ≡ value day → point_in_time room texts m date ≡ built es
    → (i : ℕ) → symbol_for i es ≡ symbol_for i (settings texts d day m.mappings [])
unfolding point_in_time asked on_day after
point_latest room texts m date {d} {day} {es} e f g i =
    ap (symbol_for i)
    (go (outside_query m.fields day)
    (sym (ap (λ (r : Read Direction). on_day room texts m r day) e) ∙ sym (ap (asked room texts m) f) ∙ g))
    ∙ latest (settings texts d day m.mappings []) i
  where
    go : (b : Bool) → cond b (stopped 10 0 0) (pick_mappings room texts d day 0 m.mappings []) ≡ built es → es ≡ after (settings texts d day m.mappings [])
    go true h = let z : ◌≡◌ {A = ℕ} 0 1 = cc in absurd (omega arith)
    go false h = picked_after room texts d day m.mappings 0 [] es h

-- ---- entries laid over fewer entries

-- two lists of one length that agree at x, or have a number stored over it
put_agree : (w : ℕ) (b b' : List ℕ) (at v x : ℕ) → length b ≡ length b' → ((at ≤ x → x < at + w → ⊥) → get_or b x 0 ≡ get_or b' x 0)
    → get_or (put_field w b at v) x 0 ≡ get_or (put_field w b' at v) x 0
unfolding put_field
put_agree zero b b' at v x l h = h (λ p q. omega arith)
put_agree (suc w) b b' at v x l h =
    put_agree w (set b at (v % 256)) (set b' at (v % 256)) (at + 1) (v / 256) x (length-set b at (v % 256) ∙ l ∙ sym (length-set b' at (v % 256)))
    (λ out. first (ℕ_discrete x at) out)
  where
    inside : Dec (at < length b) → get_or (set b at (v % 256)) at 0 ≡ get_or (set b' at (v % 256)) at 0
    inside (yes i) = get_or-set_same b at (v % 256) 0 i ∙ sym (get_or-set_same b' at (v % 256) 0 (omega arith))
    inside (no i) =
        get_or-eq_default (set b at (v % 256)) 0 (omega (arith, length-set b at (v % 256)))
        ∙ sym (get_or-eq_default (set b' at (v % 256)) 0 (omega (arith, length-set b' at (v % 256))))

    first : Dec (x ≡ at) → (at + 1 ≤ x → x < at + 1 + w → ⊥) → get_or (set b at (v % 256)) x 0 ≡ get_or (set b' at (v % 256)) x 0
    first (yes e) out = rw e (inside (dec_lt at (length b)))
    first (no d) out =
        get_or-set_other b at x (v % 256) 0 d ∙ h (λ p q. out (omega arith) (omega arith)) ∙ sym (get_or-set_other b' at x (v % 256) 0 d)

-- a place is within two parts that meet, or within neither
apart : (a m x e : ℕ) → (a ≤ x → x < m → ⊥) → (m ≤ x → x < e → ⊥) → a ≤ x → x < e → ⊥
apart a m x e p q l u = go (dec_lt x m)
  where
    go : Dec (x < m) → ⊥
    go (yes h) = p l h
    go (no h) = q (omega arith) u

entry_agree : (b b' : List ℕ) (k : ℕ) (e : Entry) (x : ℕ) → length b ≡ length b' → ((k * 8 ≤ x → x < k * 8 + 8 → ⊥) → get_or b x 0 ≡ get_or b' x 0)
    → get_or (put_entry b k e) x 0 ≡ get_or (put_entry b' k e) x 0
unfolding put_entry
entry_agree b b' k e x l h =
    put_agree 4 (put_field 4 b (k * 8) e.instrument) (put_field 4 b' (k * 8) e.instrument) (k * 8 + 4) e.symbol x
    (length_put 4 b (k * 8) e.instrument ∙ l ∙ sym (length_put 4 b' (k * 8) e.instrument))
    (λ out. put_agree 4 b b' (k * 8) e.instrument x l
    (λ out'. h (λ p q. apart (k * 8) (k * 8 + 4) x (k * 8 + 4 + 4) out' out p (omega arith))))

entries_outside : (b : List ℕ) (k : ℕ) (es : List Entry) (x : ℕ) → (k * 8 ≤ x → x < (k + length es) * 8 → ⊥) → get_or (put_entries b k es) x 0 ≡ get_or b x 0
unfolding put_entries
entries_outside b k [] x out = refl
entries_outside b k (e ∷ es) x out =
    entries_outside (put_entry b k e) (suc k) es x (λ p q. out (omega arith) (omega arith))
    ∙ put_entry_byte b k e x (λ p q. out (omega arith) (omega arith))

-- two tables that differ at n places at most are one table once as many entries are laid over these
put_over : (ys : List Entry) (b b' : List ℕ) (k n : ℕ) → length b ≡ length b' → ((x : ℕ) → (k * 8 ≤ x → x < (k + n) * 8 → ⊥) → get_or b x 0 ≡ get_or b' x 0)
    → n ≤ length ys → put_entries b k ys ≡ put_entries b' k ys
unfolding put_entries
put_over [] b b' k n l h c = ext_get_or 0 b b' l (λ x i. h x (λ p q. omega arith))
put_over (y ∷ ys) b b' k n l h c =
    put_over ys (put_entry b k y) (put_entry b' k y) (suc k) (n - 1) (length_put_entry b k y ∙ l ∙ sym (length_put_entry b' k y))
    (λ x out. entry_agree b b' k y x l
    (λ out'. h x (λ p q. apart (k * 8) (k * 8 + 8) x ((k + n) * 8) out' (λ p' q'. out (omega arith) (omega arith)) p q)))
    (omega arith)

pub entries_over : (z : List ℕ) (xs ys : List Entry) → length xs ≤ length ys → put_entries (put_entries z 0 xs) 0 ys ≡ put_entries z 0 ys
entries_over z xs ys h = put_over ys (put_entries z 0 xs) z 0 (length xs) (length_put_entries z 0 xs) (entries_outside z 0 xs) h

-- an entry that is set makes a list no shorter
pub set_longer : (e : Entry) (es : List Entry) → length es ≤ length (set_entry e es)
unfolding set_entry
set_longer e [] = omega arith
set_longer e (y ∷ ys) =
    ltb_case (λ (l : List Entry). suc (length ys) ≤ length l) y.instrument e.instrument _ _ (λ h. omega (arith, set_longer e ys))
    (λ h. ltb_case (λ (l : List Entry). suc (length ys) ≤ length l) e.instrument y.instrument _ _ (λ h. omega arith) (λ h. omega arith))
