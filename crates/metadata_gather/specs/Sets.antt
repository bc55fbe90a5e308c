-- A set of both sides in scratch. Assumes nothing.
use Rattle.std.specs.Prelude.{◌≡◌, ℕ, ◌+◌, ◌≤◌, Bool, List, [], length, take}
use Rattle.std.proofs.Common.{ap, ◌∙◌, arith}
use Rattle.metadata_rules.specs.Metadata.{every, once, add_all}
use Rattle.metadata_gather.specs.Arrivals.{AllAdded, add_all_small}
use Rattle.metadata_gather.specs.Judge.{below, spaced, spaced_front}

-- the entries of a and then of b, each once, stand at the front of t
pub record AllUnited (a b : List ℕ) (count : ℕ) (t : List ℕ) : Type 0 where
  pub how_many : count ≡ length (add_all (once a) b)
  pub stand : take count t ≡ add_all (once a) b

-- and whether each was handed out
pub record IsUnited (a b : List ℕ) (names : ℕ) (known : Bool) (count : ℕ) (t : List ℕ) : Type 0 where
  pub all_known : known ≡ every (below names) (add_all (once a) b)
  pub united : AllUnited a b count t

-- ---- laws

pub first_few : (a t : List ℕ) (count : ℕ) (t' at : List ℕ) → AllAdded (add_all (take 0 t) a) count t' at → count ≤ length a
unfolding add_all
first_few a t count t' at g = let e = g.how_many in let b = add_all_small a [] in omega arith

pub all_united : (a b t : List ℕ) (c : ℕ) (t' at : List ℕ) → AllAdded (add_all (take 0 t) a) c t' at → (count : ℕ) (t'' at' : List ℕ) → AllAdded (add_all (take c t') b) count t'' at' → AllUnited a b count t''
unfolding once
all_united a b t c t' at g count t'' at' h =
    let e : add_all (take c t') b ≡ add_all (once a) b = ap (λ (l : List ℕ). add_all l b) g.stand in
    record { how_many = h.how_many ∙ ap length e; stand = h.stand ∙ e }

-- no more than there were
pub united_few : (a b : List ℕ) (count : ℕ) (t : List ℕ) → AllUnited a b count t → count ≤ length a + length b
unfolding once
united_few a b count t u = let e = u.how_many in let g = add_all_small b (add_all [] a) in let h = add_all_small a [] in omega arith

-- tested in scratch
pub is_united : (a b : List ℕ) (names count : ℕ) (t : List ℕ) → AllUnited a b count t → count ≤ length t → (known : Bool)
    → known ≡ every (below names) (spaced t 1 0 count) → IsUnited a b names known count t
is_united a b names count t u h known e =
    record { all_known = e ∙ ap (every (below names)) (spaced_front t count h ∙ u.stand); united = u }

pub all_alone : (a t : List ℕ) (count : ℕ) (t' at : List ℕ) → AllAdded (add_all (take 0 t) a) count t' at → AllUnited a [] count t'
unfolding once add_all
all_alone a t count t' at g = record { how_many = g.how_many; stand = g.stand }
