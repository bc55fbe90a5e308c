-- RULES, Numbers the desk lives by: a refusal's number, and what comes with it.
use Rattle.std.specs.Prelude.{ℕ, List, [], ◌∷◌, Result, Ok, Err}
use Rattle.theory.specs.Answer.{Answer, answer}
use Rattle.leaves.specs.declared.refusal.Reason.{Reason}
use Rattle.leaves.specs.declared.refusal.Reason.TheVariants as reason
use Rattle.leaves.specs.declared.refusal.Field.{Field}
use Rattle.leaves.specs.declared.refusal.Field.TheVariants as field
use Rattle.leaves.specs.declared.refusal.Refusal.{Refusal}
use Rattle.leaves.specs.declared.refusal.Refusal.TheVariants.{Reversed, NoRoom, UnknownSymbol, BadName, NoNameRoom, Differ, Conflict, NotNumber, NoInstrumentId, OutsideQuery, NoDate, BadStreams, Damaged, IllFormed, BadMemory}

-- why a stream or a mapping record is damaged, by number
abbrev pub reason_number : Reason → ℕ
reason_number reason.Short = 1
reason_number reason.BadLength = 2
reason_number reason.PastEnd = 3
reason_number reason.ShortBody = 4

-- the fields in which two metadata must agree, by their places in the order of the comparison
abbrev pub field_number : Field → ℕ
field_number field.Version = 1
field_number field.Dataset = 2
field_number field.StypeIn = 3
field_number field.StypeOut = 4
field_number field.TsOut = 5
field_number field.SymbolCstrLen = 6

-- the number in the table
abbrev pub number_of : Refusal → ℕ
number_of Reversed = 1
number_of NoRoom = 2
number_of UnknownSymbol = 3
number_of BadName = 4
number_of NoNameRoom = 5
number_of (Differ f) = 6
number_of Conflict = 7
number_of NotNumber = 8
number_of NoInstrumentId = 9
number_of OutsideQuery = 10
number_of NoDate = 11
number_of BadStreams = 12
number_of (Damaged stream place why) = 13
number_of IllFormed = 14
number_of BadMemory = 15

-- the values that come with it: "the field comes with it" (6), "with stream, place and reason" (13)
abbrev pub values_of : Refusal → List ℕ
values_of Reversed = []
values_of NoRoom = []
values_of UnknownSymbol = []
values_of BadName = []
values_of NoNameRoom = []
values_of (Differ f) = field_number f ∷ []
values_of Conflict = []
values_of NotNumber = []
values_of NoInstrumentId = []
values_of OutsideQuery = []
values_of NoDate = []
values_of BadStreams = []
values_of (Damaged stream place why) = stream ∷ place ∷ reason_number why ∷ []
values_of IllFormed = []
values_of BadMemory = []

-- the answer of a call that refuses
abbrev pub refused : Refusal → Answer
refused r = answer (number_of r) (values_of r)

-- the answer of a call that says something, by the values of what it says, or refuses
abbrev pub answer_with : {A : Type 0} → (A → List ℕ) → Result A Refusal → Answer
answer_with values (Ok x) = answer 0 (values x)
answer_with values (Err r) = refused r

-- the refusal of a record's bytes that stand alone
abbrev pub refused_for : Reason → Refusal
refused_for why = Damaged 0 0 why
