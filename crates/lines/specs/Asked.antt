-- What a program over a table is asked (RULES, Requests, No. 1 and 4): one section of kind 2, the name count in 4 bytes, one of kind 3, a
-- table's intervals, and one of a last kind, and nothing else; at most so many bytes. Assumes nothing.
use Rattle.std.specs.Prelude.{◌≡◌, ℕ, ◌+◌, ◌-◌, ◌≤◌, ◌<◌, Bool, false, cond, List, length, take, drop, ltb, eqb, Option, Some, None}
use Rattle.std.proofs.Math.Path.{refl}
use Rattle.std.proofs.Common.{arith, lt-ltb, le-ltb, eq-eqb, ne_eqb}
use Rattle.lines.specs.Parts.{part_end, part_long}

-- a section ends there
abbrev pub ends_at : Option ℕ → ℕ → Bool
ends_at None n = false
ends_at (Some e) n = eqb e n

-- the end of the table's section, where one of the last kind stands from there to the end
abbrev pub then_last : ℕ → List ℕ → Option ℕ → Option ℕ
then_last last b None = None
then_last last b (Some e) = cond (ends_at (part_end last b e) (length b)) (Some e) None

-- where the table's section ends; none where the input is something else
unfoldable pub table_end : ℕ → ℕ → List ℕ → Option ℕ
table_end most last b = cond (ltb most (length b)) None (cond (ends_at (part_end 2 b 0) 10) (then_last last b (part_end 3 b 10)) None)

-- the table's section and the last one lie within so many bytes
pub record Apart (e long : ℕ) : Type 0 where
  pub table_in : 16 ≤ e
  pub last_in_lem : e + 6 ≤ long

-- the bytes from a place up to another
abbrev pub between : ℕ → ℕ → List ℕ → List ℕ
between from to b = take (to - from) (drop from b)

-- ---- laws

module _ (most last : ℕ) (b : List ℕ) where
  pub end_long : most < length b → None ≡ table_end most last b
  unfolding table_end
  end_long h = rw (lt-ltb most (length b) h) refl

  module _ (h : length b ≤ most) where
    pub end_no_names : None ≡ part_end 2 b 0 → None ≡ table_end most last b
    unfolding table_end
    end_no_names p = rw (le-ltb most (length b) h, ← p) refl

    pub end_names_lem : {k : ℕ} → Some k ≡ part_end 2 b 0 → (k ≡ 10 → ⊥) → None ≡ table_end most last b
    unfolding table_end
    end_names_lem {k} p d = rw (le-ltb most (length b) h, ← p, ne_eqb k 10 d) refl

    module _ {k : ℕ} (p : Some k ≡ part_end 2 b 0) (q : k ≡ 10) where
      pub end_table : None ≡ part_end 3 b 10 → None ≡ table_end most last b
      unfolding table_end
      end_table f = rw (le-ltb most (length b) h, ← p, eq-eqb k 10 q, ← f) refl

      module _ {e : ℕ} (f : Some e ≡ part_end 3 b 10) where
        pub end_no_last : None ≡ part_end last b e → None ≡ table_end most last b
        unfolding table_end
        end_no_last g = rw (le-ltb most (length b) h, ← p, eq-eqb k 10 q, ← f, ← g) refl

        module _ {j : ℕ} (g : Some j ≡ part_end last b e) where
          pub end_last : (j ≡ length b → ⊥) → None ≡ table_end most last b
          unfolding table_end
          end_last n = rw (le-ltb most (length b) h, ← p, eq-eqb k 10 q, ← f, ← g, ne_eqb j (length b) n) refl

          pub end_there : j ≡ length b → Some e ≡ table_end most last b
          unfolding table_end
          end_there n = rw (le-ltb most (length b) h, ← p, eq-eqb k 10 q, ← f, ← g, eq-eqb j (length b) n) refl

          pub apart_there : j ≡ length b → Apart e (length b)
          apart_there n =
              let l : 10 + 6 ≤ e = part_long 3 b 10 f in
              let r : e + 6 ≤ j = part_long last b e g in
              record { table_in = omega arith; last_in_lem = omega arith }
