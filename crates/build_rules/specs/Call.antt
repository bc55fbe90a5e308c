-- What both build calls share: the test of the lent memory, and what a refusal leaves (RULES, The map over time).
use Rattle.std.specs.Prelude.{ℕ, Bool, ◌&&◌, cond, List, [], length, replicate, Result, Ok, Err}
use Rattle.theory.specs.Answer.{Answer, answer}
use Rattle.leaves.specs.Refusal.{refused}
use Rattle.leaves.specs.declared.refusal.Refusal.{Refusal}
use Rattle.leaves.specs.declared.refusal.Refusal.TheVariants.{IllFormed, BadMemory}
use Rattle.leaves_names.specs.Names.{list_fits}
use Rattle.metadata_form.specs.declared.header.Header.{Header}
use Rattle.metadata_form.specs.declared.header.Lengths.{Lengths}
use Rattle.metadata_form.specs.Header.{metadata_fits}

-- the table's memory, the metadata and the list are of their forms; where not, 15
unfoldable pub build_fits : Bool → Header → Lengths → List ℕ → ℕ → ℕ → ℕ → ℕ → Bool
build_fits table h l m bytes places names name_bytes = table && (metadata_fits h l m && list_fits bytes places names name_bytes)

-- 15 where the memory is not of its form, then 14 where the list is not well-formed
unfoldable pub judged : Bool → Bool → Answer
judged fits formed = cond fits (cond formed (answer 0 []) (refused IllFormed)) (refused BadMemory)

-- the table after a build: a refused one leaves 0 in every place
abbrev pub settled : Result ℕ Refusal → List ℕ → List ℕ
settled (Ok used) t = t
settled (Err r) t = replicate (length t) 0
