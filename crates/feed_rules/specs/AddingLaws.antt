-- A portion, and the word that a stream has ended, on a sound state. Assumes nothing.
-- What rests on a step of the machine, or on what is known of a stream, stands in proofs/AddingLaws.
use Rattle.std.specs.Prelude.{◌≡◌, ℕ, length}
use Rattle.std.proofs.Math.Bool.{true}
use mathlib.Core.List.{List}
use borrow.Author.Tests.{eqb-true}
use Rattle.theory.specs.Bools.{both}
use Rattle.feed_rules.specs.Adding.{word_fits, portion_fits}

-- ---- what is lent, by the tests

pub word_room : (ms ps : List ℕ) → word_fits (length ms) (length ps) ≡ true → (length ms ≡ 256) × (length ps ≡ 256)
unfolding word_fits
word_room ms ps e = let a = both _ _ e in (eqb-true (length ms) 256 a.0, eqb-true (length ps) 256 a.1)

pub record PortionRoom (ms cs hs ps window : List ℕ) : Type 0 where
  pub marks : length ms ≡ 256
  pub places : length cs ≡ 256
  pub heads : length hs ≡ 256
  pub spans : length ps ≡ 256
  pub bytes : length window ≡ 262144

pub portion_room : (ms cs hs ps window : List ℕ) → portion_fits (length ms) (length cs) (length hs) (length ps) (length window) ≡ true
    → PortionRoom ms cs hs ps window
unfolding portion_fits
portion_room ms cs hs ps window e =
    let a = both _ _ e in
    let b = both _ _ a.1 in
    let c = both _ _ b.1 in
    let d = word_room ms ps c.1 in
    record {
      marks = d.0;
      places = eqb-true (length cs) 256 a.0;
      heads = eqb-true (length hs) 256 b.0;
      spans = d.1;
      bytes = eqb-true (length window) 262144 c.0;
    }
