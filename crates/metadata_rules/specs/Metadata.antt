-- A metadata value, losing its repeats, and merging one more into it (RULES, Merging metadata). Laws stand in Names, Fold, Cover.
use Rattle.std.specs.Prelude.{ℕ, zero, suc, ◌+◌, min, max, Bool, true, false, not, ◌&&◌, cond, List, [], ◌∷◌, ◌++◌, length, leb, ltb, eqb}
use Rattle.theory.specs.Answer.{Answer, answer}
use Rattle.metadata_rules.specs.declared.Interval.{Interval}
use Rattle.metadata_rules.specs.Walk.{Walked, conflict, laid, walk, walk_all}

-- a name's number, and its intervals
pub record Mapping : Type 0 where
  pub name : ℕ
  pub intervals : List Interval

abbrev pub mapping : ℕ → List Interval → Mapping
mapping n s = record { name = n; intervals = s }

-- what a metadata says besides its lists: the dataset is a name's number; an end or limit of 0 is a missing one; schema and
-- stype-in have a number that means none
pub record Fields : Type 0 where
  pub version : ℕ
  pub dataset : ℕ
  pub schema : ℕ
  pub start : ℕ
  pub end : ℕ
  pub limit : ℕ
  pub stype_in : ℕ
  pub stype_out : ℕ
  pub ts_out : Bool
  pub symbol_cstr_len : ℕ

-- the schema that means none, DBN's own
abbrev pub no_schema : ℕ
no_schema = 65535

pub record Metadata : Type 0 where
  pub fields : Fields
  pub symbols : List ℕ
  pub partial : List ℕ
  pub not_found : List ℕ
  pub mappings : List Mapping

-- ---- sets

-- one more entry goes to the end, unless it is there
unfoldable pub add : List ℕ → ℕ → List ℕ
add [] x = x ∷ []
add (y ∷ ys) x = cond (eqb y x) (y ∷ ys) (y ∷ add ys x)

unfoldable pub add_all : List ℕ → List ℕ → List ℕ
unfolding add
add_all ys [] = ys
add_all ys (x ∷ xs) = add_all (add ys x) xs

-- equal entries of a set once, in the order of first arrival
unfoldable pub once : List ℕ → List ℕ
unfolding add_all
once xs = add_all [] xs

-- ---- mappings

unfoldable pub names_of : List Mapping → List ℕ
names_of [] = []
names_of (m ∷ ms) = m.name ∷ names_of ms

-- of two mappings with one name the last counts, at the place of the first
unfoldable pub enter : List Mapping → Mapping → List Mapping
enter [] m = m ∷ []
enter (l ∷ ls) m = cond (eqb l.name m.name) (m ∷ ls) (l ∷ enter ls m)

unfoldable pub enter_all : List Mapping → List Mapping → List Mapping
unfolding enter
enter_all ls [] = ls
enter_all ls (m ∷ ms) = enter_all (enter ls m) ms

-- the first metadata loses repeats
unfoldable pub opened : Metadata → Metadata
unfolding once enter_all
opened m = record {
  fields = m.fields;
  symbols = once m.symbols;
  partial = once m.partial;
  not_found = once m.not_found;
  mappings = enter_all [] m.mappings;
}

-- the lists under one name, in the order of arrival
unfoldable pub lists_of : ℕ → List Mapping → List (List Interval)
lists_of n [] = []
lists_of n (m ∷ ms) = cond (eqb m.name n) (m.intervals ∷ lists_of n ms) (lists_of n ms)

-- what merging mappings gives: that intervals conflict, or the mappings
pub data Merged : Type 0 where
  conflicting : Merged
  merged : List Mapping → Merged

unfoldable pub in_front : Mapping → Merged → Merged
in_front m conflicting = conflicting
in_front m (merged ms) = merged (m ∷ ms)

-- the name n with its outcome, and then the rest
unfoldable pub under : ℕ → Walked → Merged → Merged
unfolding in_front
under n conflict r = conflicting
under n (laid s) r = in_front (mapping n s) r

-- each name with its outcome
unfoldable pub collect : List ℕ → (ℕ → Walked) → Merged
unfolding under
collect [] f = merged []
collect (n ∷ ns) f = under n (f n) (collect ns f)

-- a name's outcome: the walk over its lists in the order of their arrival
unfoldable pub outcome : List Mapping → ℕ → Walked
unfolding walk_all lists_of
outcome ms n = walk_all [] (lists_of n ms)

-- the merge by name: the names in the order of first arrival, each with its outcome
unfoldable pub by_name : List Mapping → Merged
unfolding collect once names_of outcome
by_name ms = collect (once (names_of ms)) (outcome ms)

-- ---- the same one after the other, as the Rust does it (Fold proves them equal)

-- an added mapping is walked with the one of its name, or goes to the end
unfoldable pub fold_one : List Mapping → Mapping → Merged
unfolding under in_front walk
fold_one [] m = merged (m ∷ [])
fold_one (l ∷ ls) m = cond (eqb l.name m.name) (under l.name (walk l.intervals m.intervals) (merged ls)) (in_front l (fold_one ls m))

unfoldable pub and_then : (List Mapping → Merged) → Merged → Merged
and_then go conflicting = conflicting
and_then go (merged ms) = go ms

unfoldable pub fold_in : List Mapping → List Mapping → Merged
unfolding fold_one and_then
fold_in ls [] = merged ls
fold_in ls (m ∷ ms) = and_then (λ r. fold_in r ms) (fold_one ls m)

-- ---- the fields

-- an unequal schema becomes none
unfoldable pub same_schema : ℕ → ℕ → ℕ
same_schema a b = cond (eqb a b) a no_schema

-- start is the lesser; end the greater, a missing end (0) counting as lowest; limit becomes none
unfoldable pub fields_of : Fields → Fields → Fields
unfolding same_schema
fields_of f g = record {
  version = f.version;
  dataset = f.dataset;
  schema = same_schema f.schema g.schema;
  start = min f.start g.start;
  end = max f.end g.end;
  limit = 0;
  stype_in = f.stype_in;
  stype_out = f.stype_out;
  ts_out = f.ts_out;
  symbol_cstr_len = f.symbol_cstr_len;
}

unfoldable pub same_bool : Bool → Bool → Bool
same_bool true b = b
same_bool false b = not b

-- the place of the first of the six that differs, from 1; 0 for none
unfoldable pub differs_at : Fields → Fields → ℕ
unfolding same_bool
differs_at f g =
    cond (not (eqb f.version g.version)) 1
    (cond (not (eqb f.dataset g.dataset)) 2
    (cond (not (eqb f.stype_in g.stype_in)) 3
    (cond (not (eqb f.stype_out g.stype_out)) 4
    (cond (not (same_bool f.ts_out g.ts_out)) 5
    (cond (not (eqb f.symbol_cstr_len g.symbol_cstr_len)) 6 0)))))

-- ---- refusals

unfoldable pub every : {X : Type 0} → (X → Bool) → List X → Bool
every p [] = true
every p (x ∷ xs) = p x && every p xs

-- a test of every interval of every mapping
unfoldable pub every_interval : (Interval → Bool) → List Mapping → Bool
unfolding every
every_interval p ms = every (λ (m : Mapping). every p m.intervals) ms

-- 11: each start and end is a date
unfoldable pub dates_known : (ℕ → Bool) → List Mapping → Bool
unfolding every_interval
dates_known date ms = every_interval (λ x. date x.start && date x.end) ms

-- 3: each name number was handed out; of the mappings, and of the rest
unfoldable pub mappings_known : ℕ → List Mapping → Bool
unfolding every_interval every
mappings_known names ms = every (λ (k : Mapping). ltb k.name names) ms && every_interval (λ x. ltb x.symbol names) ms

unfoldable pub rest_known : ℕ → Metadata → Bool
unfolding every
rest_known names m =
    ltb m.fields.dataset names
    && (every (λ n. ltb n names) m.symbols
    && (every (λ n. ltb n names) m.partial
    && every (λ n. ltb n names) m.not_found))

unfoldable pub names_known : ℕ → Metadata → Bool
unfolding rest_known mappings_known
names_known names m = rest_known names m && mappings_known names m.mappings

-- 1: no interval's start comes after its end
unfoldable pub forwards : List Mapping → Bool
unfolding every_interval
forwards ms = every_interval (λ x. leb x.start x.end) ms

-- the room of each list: entries, mappings and intervals that the lent memory holds
pub record Rooms : Type 0 where
  pub symbols : ℕ
  pub partial : ℕ
  pub not_found : ℕ
  pub mappings : ℕ
  pub intervals : ℕ

unfoldable pub count_intervals : List Mapping → ℕ
count_intervals [] = 0
count_intervals (m ∷ ms) = length m.intervals + count_intervals ms

-- 2: each list of the outcome fits its room
unfoldable pub fits : Rooms → Metadata → Bool
unfolding count_intervals
fits r m =
    leb (length m.symbols) r.symbols
    && (leb (length m.partial) r.partial
    && (leb (length m.not_found) r.not_found
    && (leb (length m.mappings) r.mappings
    && leb (count_intervals m.mappings) r.intervals)))

-- what a merge is given besides the two metadata: which numbers are dates, how many names were handed out, the rooms
pub record Given : Type 0 where
  pub date : ℕ → Bool
  pub names : ℕ
  pub rooms : Rooms

-- what a merge gives: the answer of a refusal, or the metadata
pub data Outcome : Type 0 where
  refused : Answer → Outcome
  done : Metadata → Outcome

-- both sides together, with the mappings ms
unfoldable pub together : Metadata → Metadata → List Mapping → Metadata
unfolding fields_of add_all
together m k ms = record {
  fields = fields_of m.fields k.fields;
  symbols = add_all m.symbols k.symbols;
  partial = add_all m.partial k.partial;
  not_found = add_all m.not_found k.not_found;
  mappings = ms;
}

unfoldable pub if_fits : Rooms → Metadata → Outcome
unfolding fits
if_fits r m = cond (fits r m) (done m) (refused (answer 2 []))

unfoldable pub if_merged : Rooms → Metadata → Metadata → Merged → Outcome
unfolding if_fits together
if_merged r m k conflicting = refused (answer 7 [])
if_merged r m k (merged ms) = if_fits r (together m k ms)

-- the six fields agree: 11, 3, 1, 7, 2, each over both sides whole before the next
unfoldable pub agreed_merge : Given → Metadata → Metadata → Outcome
unfolding dates_known names_known forwards if_merged by_name
agreed_merge w m k =
    cond (dates_known w.date m.mappings && dates_known w.date k.mappings)
    (cond (names_known w.names m && names_known w.names k)
    (cond (forwards m.mappings && forwards k.mappings)
    (if_merged w.rooms m k (by_name (m.mappings ++ k.mappings)))
    (refused (answer 1 [])))
    (refused (answer 3 [])))
    (refused (answer 11 []))

-- 6 comes first, with the field's place
unfoldable pub if_same : Given → Metadata → Metadata → ℕ → Outcome
unfolding agreed_merge
if_same w m k zero = agreed_merge w m k
if_same w m k (suc p) = refused (answer 6 (suc p ∷ []))

unfoldable pub merge_opened : Given → Metadata → Metadata → Outcome
unfolding differs_at if_same
merge_opened w m k = if_same w m k (differs_at m.fields k.fields)

-- merging k into m; a left side never opened loses its repeats first
unfoldable pub merge : Given → Metadata → Metadata → Outcome
unfolding merge_opened opened
merge w m k = merge_opened w (opened m) k
