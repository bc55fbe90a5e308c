-- Hints from metadata (dbn's `Decoder::new`: `decoders.iter().map(|d| d.metadata().start)`): each stream's hint is the start of its
-- own metadata, as it was before any merge. Assumes nothing.
use Rattle.std.specs.Prelude.{ℕ, ◌<◌, List, map, length, get_or}
use Rattle.metadata_rules.specs.Metadata.{Fields}
use Rattle.records_rules.specs.Machine.{Stream, own}
use Rattle.records_rules.specs.Order.{Rising, Sorted}
use Rattle.records_rules.specs.Whole.{run}
use Rattle.records_rules.proofs.Whole.{run_sorted}

-- a stream's hint, and those of all streams
abbrev pub hint_of : Fields → ℕ
hint_of f = f.start

abbrev pub hints_of : List Fields → List ℕ
hints_of fs = map hint_of fs

-- sorted streams, none with its metadata's start above its first record, give their records by time, stream, place
pub starts_sorted : (b : ℕ → Stream) (fs : List Fields) → ((p : ℕ) → p < length (hints_of fs) → Rising (get_or (hints_of fs) p 0) (own (b p) 0))
    → Sorted (run b (hints_of fs))
starts_sorted b fs h = run_sorted b (hints_of fs) h
