-- The status that a program ends with. What it says of a failed write is all that a contract can: no contract speaks of what the
-- system does.
use Rattle.std.specs.Prelude.{◌≡◌, ◌≢◌, ℕ, Result, Ok, Err, IfOk}
use Rattle.std.proofs.Math.Path.{refl}
use Rattle.standard.specs.declared.Status.{Status}
use Rattle.standard.specs.declared.Status.TheVariants.{Done, Bad, Failed}
use Rattle.standard.specs.declared.Failure.{Failure}

-- 0 for what was done, 1 for a bad bundle and a refusal, 2 where reading or writing failed
abbrev pub status_number : Status → ℕ
status_number Done = 0
status_number Bad = 1
status_number Failed = 2

-- this status, or reading or writing failed
abbrev pub Ends : ℕ → Result Status Failure → Type 0
Ends status r = IfOk r (λ s. status_number s ≡ status)

-- the number to end with: the status's, or 2, since reading or writing failed
abbrev pub exit_number : Result Status Failure → ℕ
exit_number (Ok s) = status_number s
exit_number (Err f) = 2

-- this status, or 2, since reading or writing failed
abbrev pub EndsWith : ℕ → ℕ → Type 0
EndsWith status r = r ≢ 2 → r ≡ status

-- ---- laws

-- what ends in this status, or fails, ends with its number, or 2
pub ends_with : {status : ℕ} (r : Result Status Failure) → Ends status r → EndsWith status (exit_number r)
ends_with (Ok s) e = λ h. e
ends_with (Err f) e = λ h. absurd (h refl)
