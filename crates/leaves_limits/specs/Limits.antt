-- The limits that the desk lives by (RULES, Numbers the desk lives by, and Merging records), each once. Assumes nothing.
use Rattle.std.specs.Prelude.{ℕ}

-- the bytes of one name
abbrev pub longest_name : ℕ
longest_name = 255

-- the names of a list, and their bytes in all
abbrev pub most_names : ℕ
most_names = 4096

abbrev pub most_name_bytes : ℕ
most_name_bytes = 65536

-- the intervals of a table over time, or the entries of a point-in-time table
abbrev pub most_room : ℕ
most_room = 65536

-- a metadata's entries in each of its three lists of names, its mappings, its intervals
abbrev pub most_entries : ℕ
most_entries = 4096

abbrev pub most_mappings : ℕ
most_mappings = 4096

abbrev pub most_intervals : ℕ
most_intervals = 65536

-- the streams of a merge
abbrev pub most_streams : ℕ
most_streams = 256

-- the bytes of a bundle that is replayed
abbrev pub most_bundle : ℕ
most_bundle = 60000

-- the calls of one run
abbrev pub most_calls : ℕ
most_calls = 4096
