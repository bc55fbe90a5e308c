-- What a refusal's number and values are: callers go by these laws, and list no refusals. Assumes nothing.
use Rattle.std.specs.Prelude.{◌≡◌, refl, ◌≢◌, cond, List, [], ℕ, zero, suc, eqb, get_or}
use Rattle.std.proofs.Common.{sym, ap, ap₂, ◌∙◌, arith}
use Rattle.theory.specs.Answer.{Answer, answer}
use Rattle.leaves.specs.Refusal.{reason_number, field_number, number_of, values_of, refused}
use Rattle.leaves.specs.declared.refusal.Reason.{Reason}
use Rattle.leaves.specs.declared.refusal.Reason.TheVariants as reason
use Rattle.leaves.specs.declared.refusal.Field.{Field}
use Rattle.leaves.specs.declared.refusal.Field.TheVariants as field
use Rattle.leaves.specs.declared.refusal.Refusal.{Refusal}
use Rattle.leaves.specs.declared.refusal.Refusal.TheVariants.{Reversed, NoRoom, UnknownSymbol, BadName, NoNameRoom, Differ, Conflict, NotNumber, NoInstrumentId, OutsideQuery, NoDate, BadStreams, Damaged, IllFormed, BadMemory}

-- a refusal is not done
pub refused_not_done : (r : Refusal) → number_of r ≢ 0
refused_not_done Reversed e = omega arith
refused_not_done NoRoom e = omega arith
refused_not_done UnknownSymbol e = omega arith
refused_not_done BadName e = omega arith
refused_not_done NoNameRoom e = omega arith
refused_not_done (Differ f) e = omega arith
refused_not_done Conflict e = omega arith
refused_not_done NotNumber e = omega arith
refused_not_done NoInstrumentId e = omega arith
refused_not_done OutsideQuery e = omega arith
refused_not_done NoDate e = omega arith
refused_not_done BadStreams e = omega arith
refused_not_done (Damaged stream place why) e = omega arith
refused_not_done IllFormed e = omega arith
refused_not_done BadMemory e = omega arith

-- so what holds of every answer but a done one holds of a refusal
pub refused_all : (P : Answer → Type 0) → ((n : ℕ) (values : List ℕ) → P (answer (suc n) values)) → (r : Refusal) → P (refused r)
refused_all P all r = go (number_of r) (values_of r) (refused_not_done r)
  where
    go : (n : ℕ) (values : List ℕ) → n ≢ 0 → P (answer n values)
    go zero values h = absurd (h refl)
    go (suc n) values h = all n values

-- only 6 and 13 come with values
pub plain_values : (r : Refusal) → number_of r ≢ 6 → number_of r ≢ 13 → values_of r ≡ []
plain_values Reversed h k = refl
plain_values NoRoom h k = refl
plain_values UnknownSymbol h k = refl
plain_values BadName h k = refl
plain_values NoNameRoom h k = refl
plain_values (Differ f) h k = absurd (h refl)
plain_values Conflict h k = refl
plain_values NotNumber h k = refl
plain_values NoInstrumentId h k = refl
plain_values OutsideQuery h k = refl
plain_values NoDate h k = refl
plain_values BadStreams h k = refl
plain_values (Damaged stream place why) h k = absurd (k refl)
plain_values IllFormed h k = refl
plain_values BadMemory h k = refl

-- so without them a refusal is its number alone
pub plain_refused : (r : Refusal) → number_of r ≢ 6 → number_of r ≢ 13 → refused r ≡ answer (number_of r) []
plain_refused r h k = ap (answer (number_of r)) (plain_values r h k)

-- the reason and the field with a number
reason_of : ℕ → Reason
reason_of n = cond (eqb n 1) reason.Short (cond (eqb n 2) reason.BadLength (cond (eqb n 3) reason.PastEnd reason.ShortBody))

reason_back : (why : Reason) → reason_of (reason_number why) ≡ why
unfolding reason_of
reason_back reason.Short = refl
reason_back reason.BadLength = refl
reason_back reason.PastEnd = refl
reason_back reason.ShortBody = refl

pub reason_one : (x y : Reason) → reason_number x ≡ reason_number y → x ≡ y
reason_one x y e = sym (reason_back x) ∙ ap reason_of e ∙ reason_back y

field_of : ℕ → Field
field_of n =
    cond (eqb n 1) field.Version (cond (eqb n 2) field.Dataset (cond (eqb n 3) field.StypeIn (cond (eqb n 4) field.StypeOut
    (cond (eqb n 5) field.TsOut field.SymbolCstrLen))))

field_back : (f : Field) → field_of (field_number f) ≡ f
unfolding field_of
field_back field.Version = refl
field_back field.Dataset = refl
field_back field.StypeIn = refl
field_back field.StypeOut = refl
field_back field.TsOut = refl
field_back field.SymbolCstrLen = refl

-- the refusal with a number and values
refusal_of : ℕ → List ℕ → Refusal
refusal_of n vs =
    cond (eqb n 1) Reversed (cond (eqb n 2) NoRoom (cond (eqb n 3) UnknownSymbol (cond (eqb n 4) BadName (cond (eqb n 5) NoNameRoom
    (cond (eqb n 6) (Differ (field_of (get_or vs 0 0))) (cond (eqb n 7) Conflict (cond (eqb n 8) NotNumber (cond (eqb n 9) NoInstrumentId
    (cond (eqb n 10) OutsideQuery (cond (eqb n 11) NoDate (cond (eqb n 12) BadStreams
    (cond (eqb n 13) (Damaged (get_or vs 0 0) (get_or vs 1 0) (reason_of (get_or vs 2 0))) (cond (eqb n 14) IllFormed BadMemory)))))))))))))

refusal_back : (r : Refusal) → refusal_of (number_of r) (values_of r) ≡ r
unfolding refusal_of
refusal_back Reversed = refl
refusal_back NoRoom = refl
refusal_back UnknownSymbol = refl
refusal_back BadName = refl
refusal_back NoNameRoom = refl
refusal_back (Differ f) = ap Differ (field_back f)
refusal_back Conflict = refl
refusal_back NotNumber = refl
refusal_back NoInstrumentId = refl
refusal_back OutsideQuery = refl
refusal_back NoDate = refl
refusal_back BadStreams = refl
refusal_back (Damaged stream place why) = ap (Damaged stream place) (reason_back why)
refusal_back IllFormed = refl
refusal_back BadMemory = refl

pub refused_one : (r q : Refusal) → refused r ≡ refused q → r ≡ q
refused_one r q e =
    let n : number_of r ≡ number_of q = cc in
    let v : values_of r ≡ values_of q = cc in
    sym (refusal_back r) ∙ ap₂ refusal_of n v ∙ refusal_back q
