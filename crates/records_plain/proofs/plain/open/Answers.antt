-- The heap engine's opening, on a heap of its own, in the caller's arrays. Assumes nothing.
use mathlib.Core.Path.{◌≡◌, refl, ap, sym}
use mathlib.Core.List.{List, [], ◌∷◌}
use Prim.Native.Nat.{ℕ}
use borrow.Author.Rules.{rules}
use Rattle.std.specs.Prelude.{Result, Ok, Err, IfOk}
use Rattle.theory.specs.Answer.{Answer, answer}
use Rattle.leaves.specs.declared.refusal.Refusal.{Refusal}
use Rattle.records.specs.Merge.{opening_of, opened_of}
use Rattle.records_state.specs.declared.state.State.{State}
use Rattle.records_plain.specs.Plain.{PlainOpens}
use Rattle.records_plain.specs.PlainSteps.{plain_opens}
use Rattle.records_plain.proofs.plain.open.Goals as goal

all_held : (held : ℕ) (r : Result ℕ Refusal) → IfOk r (λ streams. held ≡ streams) → opened_of r ≡ opening_of held r
all_held held (Ok streams) e = ap (λ (n : ℕ). answer 0 (streams ∷ n ∷ [])) (sym e)
all_held held (Err r) e = refl

there : {buffer cuts hints ms ts cs hs : List ℕ} {x : Answer} (t : State) {ms' ts' cs' hs' : List ℕ}
    → ms' ≡ t.marks.now → ts' ≡ t.times.now → cs' ≡ t.places.now → hs' ≡ t.heads.now
    → PlainOpens buffer cuts hints ms ts cs hs x t.marks.now t.times.now t.places.now t.heads.now
    → PlainOpens buffer cuts hints ms ts cs hs x ms' ts' cs' hs'
there t em et ec eh o = rw (em, et, ec, eh) o

pub returns : goal.returns
returns c =
    let told = c.«open».ensures in
    there c.«open».new.state (search rules) (search rules) (search rules) (search rules)
    (rw (all_held c.«open».new.state.held c.«open».result told.held) (plain_opens c.empty_bytes-heap.ensures.1 told.says))
