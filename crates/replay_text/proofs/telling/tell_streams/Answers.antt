-- The cuts are right, so the opening is done, and the loop starts from the machine's start. Assumes nothing.
use native.Mathlib.Omega.{arith}
use Rattle.std.specs.Prelude.{◌≡◌, ℕ, List, length}
use Rattle.std.proofs.Common.{sym}
use Rattle.replay_text.specs.Telling.{Places, opening_done, opened_starts, opened_ready}
use Rattle.replay_text.proofs.telling.tell_streams.Goals as goal

-- what is lent has its places
lent : {ms ts cs hs hp : List ℕ} → 256 ≡ length ms → 256 ≡ length ts → 256 ≡ length cs → 256 ≡ length hs → 256 ≡ length hp → Places 0 ms ts cs hs hp
lent a b c d e = record { few = omega arith; marks = sym a; times = sym b; places = sym c; heads = sym d; heap = sym e }

pub tell_all-requires : goal.tell_all-requires
tell_all-requires g c =
    let o = c.open.ensures in
    let n = c.empty_numbers-places.ensures.1 in
    let p = lent c.empty_bytes-marks.ensures.1 c.empty_numbers-times.ensures.1 n c.empty_numbers-heads.ensures.1 c.empty_bytes-heap.ensures.1 in
    opened_ready c.requires o.memory p _ o.says c.in-Ok.is

pub returns-in-Ok : goal.returns-in-Ok
returns-in-Ok g c =
    let o = c.open.ensures in
    let n = c.empty_numbers-places.ensures.1 in
    let p = lent c.empty_bytes-marks.ensures.1 c.empty_numbers-times.ensures.1 n c.empty_numbers-heads.ensures.1 c.empty_bytes-heap.ensures.1 in
    rw (sym (opened_starts c.requires o.memory p _ o.says)) c.tell_all.ensures

pub returns-in-Err : goal.returns-in-Err
returns-in-Err g c =
    let o = c.open.ensures in
    let n = c.empty_numbers-places.ensures.1 in
    let p = lent c.empty_bytes-marks.ensures.1 c.empty_numbers-times.ensures.1 n c.empty_numbers-heads.ensures.1 c.empty_bytes-heap.ensures.1 in
    absurd (opening_done c.requires o.memory p _ o.says c.in-Err.field-0 c.in-Err.is)
