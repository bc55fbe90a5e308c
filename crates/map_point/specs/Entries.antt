-- The entries of a point-in-time table in its bytes: 8 an entry, little-endian, instrument 4, symbol 4 (RULES, The map over time).
use Rattle.std.specs.Prelude.{ℕ, zero, suc, ◌+◌, ◌*◌, List, [], ◌∷◌}
use Rattle.theory.specs.Fields.{field, put_field}
use Rattle.map_point.specs.declared.entries.Entry.{Entry}

-- the entry at a place of a table's bytes
unfoldable pub entry_at : List ℕ → ℕ → Entry
entry_at t i = record { instrument = field 4 t (i * 8); symbol = field 4 t (i * 8 + 4) }

-- the n entries from place k on
unfoldable pub entries_from : List ℕ → ℕ → ℕ → List Entry
entries_from t k zero = []
entries_from t k (suc n) = entry_at t k ∷ entries_from t (suc k) n

-- the entries of a table of which n places are in use: "`used` from the front"
abbrev pub entries : List ℕ → ℕ → List Entry
entries t n = entries_from t 0 n

-- the bytes with an entry at a place, every other byte as it was
unfoldable pub put_entry : List ℕ → ℕ → Entry → List ℕ
put_entry t i e = put_field 4 (put_field 4 t (i * 8) e.instrument) (i * 8 + 4) e.symbol

-- the bytes with a list of entries from place k on, every other byte as it was
unfoldable pub put_entries : List ℕ → ℕ → List Entry → List ℕ
put_entries t k [] = t
put_entries t k (e ∷ es) = put_entries (put_entry t k e) (suc k) es
