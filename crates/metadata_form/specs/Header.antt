-- The form of a metadata in lent memory (RULES, Numbers the desk lives by: 15), and its value. A set is one word an entry, a mapping
-- two (name, number of intervals), an interval three (start, end, symbol).
use Rattle.std.specs.Prelude.{◌≡◌, ℕ, ◌*◌, ◌/◌, ◌%◌, ◌≤◌, min, max, Bool, true, ◌&&◌, List, [], ◌∷◌, length, take, leb, eqb, Option, Some, None}
use Rattle.std.proofs.Common.{arith, leb-true, eqb-true}
use Rattle.leaves_limits.specs.Limits.{most_entries, most_intervals, most_mappings}
use Rattle.theory.specs.Bools.{and_left, and_right}
use Rattle.theory.specs.Answer.{bit}
use Rattle.leaves.specs.Refusal.{field_number}
use Rattle.leaves.specs.declared.refusal.Field.{Field}
use Rattle.metadata_rules.specs.Metadata.{Metadata, Fields, same_schema}
use Rattle.metadata_rules.specs.Words.{before, mappings_from}
use Rattle.metadata_form.specs.declared.header.Header.{Header}
use Rattle.metadata_form.specs.declared.header.Lengths.{Lengths}
use Rattle.metadata_form.specs.declared.header.Counts.{Counts}
use Rattle.metadata_form.specs.declared.lists.Lists.{Lists as Lent}
use Rattle.metadata_form.specs.declared.lists.ListsMut.{ListsMut as LentMut}

-- what the header says besides the lists
abbrev pub header_fields : Header → Fields
header_fields h = record {
  version = h.version;
  dataset = h.dataset;
  schema = h.schema;
  start = h.start;
  end = h.end;
  limit = h.limit;
  stype_in = h.stype_in;
  stype_out = h.stype_out;
  ts_out = h.ts_out;
  symbol_cstr_len = h.symbol_cstr_len;
}

-- a header's numbers, in the order of its fields
abbrev pub numbers_of : Header → List ℕ
numbers_of h =
    h.version ∷ h.dataset ∷ h.schema ∷ h.start ∷ h.end ∷ h.limit ∷ h.stype_in ∷ h.stype_out ∷ bit h.ts_out ∷ h.symbol_cstr_len
    ∷ h.symbols ∷ h.partial ∷ h.not_found ∷ h.mappings ∷ []

-- the five lent lists, whole
pub record Lists : Type 0 where
  pub symbols : List ℕ
  pub partial : List ℕ
  pub not_found : List ℕ
  pub mappings : List ℕ
  pub intervals : List ℕ

abbrev pub lists : List ℕ → List ℕ → List ℕ → List ℕ → List ℕ → Lists
lists a b c m v = record { symbols = a; partial = b; not_found = c; mappings = m; intervals = v }

-- the lists that are lent to be read, and to be written
abbrev pub lent : Lent → Lists
lent l = lists l.symbols.now l.partial.now l.not_found.now l.mappings.now l.intervals.now

abbrev pub lent_mut : LentMut → Lists
lent_mut l = lists l.symbols.now l.partial.now l.not_found.now l.mappings.now l.intervals.now

-- the lists are lent from where they were
abbrev pub SameLoans : LentMut → LentMut → Type 0
SameLoans a b =
    (b.symbols.ghost_name ≡ a.symbols.ghost_name) × (b.partial.ghost_name ≡ a.partial.ghost_name)
    × (b.not_found.ghost_name ≡ a.not_found.ghost_name) × (b.mappings.ghost_name ≡ a.mappings.ghost_name)
    × (b.intervals.ghost_name ≡ a.intervals.ghost_name)

abbrev pub lengths_by : ℕ → ℕ → ℕ → ℕ → ℕ → Lengths
lengths_by a b c m v = record { symbols = a; partial = b; not_found = c; mappings = m; intervals = v }

abbrev pub counts_by : ℕ → ℕ → ℕ → ℕ → ℕ → Counts
counts_by a b c m v = record { symbols = a; partial = b; not_found = c; mappings = m; intervals = v }

abbrev pub lengths_of : Lists → Lengths
lengths_of l = lengths_by (length l.symbols) (length l.partial) (length l.not_found) (length l.mappings) (length l.intervals)

-- the metadata that header and lists are
unfoldable pub metadata_of : Header → Lists → Metadata
metadata_of h l = record {
  fields = header_fields h;
  symbols = take h.symbols l.symbols;
  partial = take h.partial l.partial;
  not_found = take h.not_found l.not_found;
  mappings = mappings_from l.mappings l.intervals 0 0 h.mappings;
}

-- a set's list is within the limit, and what is in use within the list
unfoldable pub set_fits : ℕ → ℕ → Bool
set_fits used lent = leb lent most_entries && leb used lent

-- the lists are within their limits and made of whole mappings and intervals, and what is in use is within the lists
unfoldable pub lengths_fit : Header → Lengths → Bool
unfolding set_fits
lengths_fit h l =
    set_fits h.symbols l.symbols
    && (set_fits h.partial l.partial
    && (set_fits h.not_found l.not_found
    && ((eqb (l.mappings % 2) 0 && (leb (l.mappings / 2) most_mappings && leb h.mappings (l.mappings / 2)))
    && (eqb (l.intervals % 3) 0 && leb (l.intervals / 3) most_intervals))))

-- a metadata's memory is of the form: its lists, and the intervals in use, the sum of the mappings' counts, within the lent ones;
-- where not, 15
unfoldable pub metadata_fits : Header → Lengths → List ℕ → Bool
unfolding lengths_fit
metadata_fits header lengths mappings =
    lengths_fit header lengths && leb (before mappings header.mappings) (lengths.intervals / 3)

-- the place of the first of the six fields that differs, from 1; 0 for none
abbrev pub field_at : Option Field → ℕ
field_at None = 0
field_at (Some f) = field_number f

-- a header with this schema, start, end and limit, and with these counts
abbrev pub header_with : Header → ℕ → ℕ → ℕ → ℕ → Counts → Header
header_with h schema start end limit c = record {
  version = h.version;
  dataset = h.dataset;
  schema = schema;
  start = start;
  end = end;
  limit = limit;
  stype_in = h.stype_in;
  stype_out = h.stype_out;
  ts_out = h.ts_out;
  symbol_cstr_len = h.symbol_cstr_len;
  symbols = c.symbols;
  partial = c.partial;
  not_found = c.not_found;
  mappings = c.mappings;
}

-- the header of a merge
abbrev pub merged_header : Header → Header → Counts → Header
merged_header h g c = header_with h (same_schema h.schema g.schema) (min h.start g.start) (max h.end g.end) 0 c

-- a header with other counts
abbrev pub counted_header : Header → Counts → Header
counted_header h c = header_with h h.schema h.start h.end h.limit c

-- an outcome's counts within the rooms; where not, 2
unfoldable pub outcome_fits : Counts → Lengths → Bool
outcome_fits c l =
    leb c.symbols l.symbols
    && (leb c.partial l.partial
    && (leb c.not_found l.not_found
    && (leb c.mappings (l.mappings / 2)
    && leb c.intervals (l.intervals / 3))))

-- ---- laws

-- what a test of the form says, as facts
pub record Fitting (h : Header) (l : Lengths) : Type 0 where
  pub symbols_lent : l.symbols ≤ most_entries
  pub symbols_used : h.symbols ≤ l.symbols
  pub partial_lent : l.partial ≤ most_entries
  pub partial_used : h.partial ≤ l.partial
  pub not_found_lent : l.not_found ≤ most_entries
  pub not_found_used : h.not_found ≤ l.not_found
  pub maps_lent : l.mappings ≤ 8192
  pub maps_used : 2 * h.mappings ≤ l.mappings
  pub maps_even : l.mappings ≡ 2 * (l.mappings / 2)
  pub spans_lent : l.intervals ≤ 196608
  pub spans_whole : l.intervals ≡ 3 * (l.intervals / 3)

pub fitting : (h : Header) (l : Lengths) → lengths_fit h l ≡ true → Fitting h l
unfolding lengths_fit set_fits
fitting h l e0 =
    let a0 = and_left (set_fits h.symbols l.symbols) _ e0 in
    let e1 = and_right (set_fits h.symbols l.symbols) _ e0 in
    let a1 = and_left (set_fits h.partial l.partial) _ e1 in
    let e2 = and_right (set_fits h.partial l.partial) _ e1 in
    let a2 = and_left (set_fits h.not_found l.not_found) _ e2 in
    let e3 = and_right (set_fits h.not_found l.not_found) _ e2 in
    let m = and_left (eqb (l.mappings % 2) 0 && (leb (l.mappings / 2) most_mappings && leb h.mappings (l.mappings / 2))) _ e3 in
    let e6 = and_right (eqb (l.mappings % 2) 0 && (leb (l.mappings / 2) most_mappings && leb h.mappings (l.mappings / 2))) _ e3 in
    let a3 = eqb-true (l.mappings % 2) 0 (and_left (eqb (l.mappings % 2) 0) _ m) in
    let e4 = and_right (eqb (l.mappings % 2) 0) _ m in
    let a4 = leb-true (l.mappings / 2) most_mappings (and_left (leb (l.mappings / 2) most_mappings) _ e4) in
    let a5 = leb-true h.mappings (l.mappings / 2) (and_right (leb (l.mappings / 2) most_mappings) _ e4) in
    let a6 = eqb-true (l.intervals % 3) 0 (and_left (eqb (l.intervals % 3) 0) _ e6) in
    let a7 = leb-true (l.intervals / 3) most_intervals (and_right (eqb (l.intervals % 3) 0) _ e6) in
    record {
      symbols_lent = leb-true l.symbols most_entries (and_left (leb l.symbols most_entries) _ a0);
      symbols_used = leb-true h.symbols l.symbols (and_right (leb l.symbols most_entries) _ a0);
      partial_lent = leb-true l.partial most_entries (and_left (leb l.partial most_entries) _ a1);
      partial_used = leb-true h.partial l.partial (and_right (leb l.partial most_entries) _ a1);
      not_found_lent = leb-true l.not_found most_entries (and_left (leb l.not_found most_entries) _ a2);
      not_found_used = leb-true h.not_found l.not_found (and_right (leb l.not_found most_entries) _ a2);
      maps_lent = omega arith;
      maps_used = omega arith;
      maps_even = omega arith;
      spans_lent = omega arith;
      spans_whole = omega arith;
    }

-- and of the sum
pub record MetadataFitting (h : Header) (l : Lengths) (m : List ℕ) : Type 0 where
  pub fit : Fitting h l
  pub sum : before m h.mappings ≤ l.intervals / 3

pub metadata_fitting : (h : Header) (l : Lengths) (m : List ℕ) → metadata_fits h l m ≡ true → MetadataFitting h l m
unfolding metadata_fits
metadata_fitting h l m e =
    record {
      fit = fitting h l (and_left (lengths_fit h l) _ e);
      sum = leb-true (before m h.mappings) (l.intervals / 3) (and_right (lengths_fit h l) _ e);
    }
