-- The outcome of a merge from its parts: the sets, the plan of the mappings, the room. Assumes nothing.
use Rattle.std.proofs.Math.Path.{◌≡◌, refl, sym, ap, subst}
use Rattle.std.proofs.Common.{◌∙◌, arith}
use Rattle.std.specs.Prelude.{ℕ, ◌*◌, ◌/◌, ◌≤◌, Bool, ◌&&◌, cond, List, [], ◌∷◌, ◌++◌, length, take, leb, ltb, Result, Ok, Err}
use Rattle.std.proofs.Math.Bool.{true, false}
use Rattle.theory.specs.Answer.{answer}
use Rattle.leaves.specs.Refusal.{refused}
use Rattle.leaves.specs.declared.refusal.Refusal.{Refusal}
use Rattle.leaves.specs.declared.refusal.Refusal.TheVariants.{Reversed, NoRoom, UnknownSymbol, Conflict, NoDate}
use Rattle.metadata_rules.specs.declared.Interval.{Interval}
use Rattle.metadata_rules.specs.Cases.{eqb_case}
use Rattle.metadata_rules.specs.Metadata.{Metadata, Fields, Mapping, Merged, conflicting, merged, add, add_all, once, opened, by_name, every, every_interval, dates_known, mappings_known, rest_known, names_known, forwards, count_intervals, Rooms, Given, Outcome, done, together, fields_of, if_fits, if_merged, agreed_merge, fits}
use Rattle.metadata_rules.specs.Metadata.{refused as stopped}
use Rattle.metadata_rules.specs.Words.{every_append}
use Rattle.metadata_lists.specs.Names.{placed, lay_all}
use Rattle.metadata_lists.specs.NamesWords.{Stands, stands, front_maps, front_spans}
use Rattle.metadata_gather.specs.Judge.{known_date, below, judged_of, and_assoc}
use Rattle.metadata_plan.specs.Plan.{end_plan, shown_merged, plan_on, plan_of, judged_all, both_sides}
use Rattle.metadata_plan.specs.Plan.{stopped as halted}
use Rattle.metadata_lists.specs.declared.names.Laid.{Laid}
use Rattle.metadata_form.specs.declared.header.Header.{Header}
use Rattle.metadata_form.specs.declared.header.Lengths.{Lengths}
use Rattle.metadata_form.specs.declared.header.Counts.{Counts}
use Rattle.metadata_form.specs.Header.{Lists, lists, lengths_of, counts_by, header_fields, metadata_of, outcome_fits}
use Rattle.metadata_gather.specs.Sets.{IsUnited}
use Rattle.metadata_open.specs.Commit.{StandsIn}
use Rattle.metadata_merge.specs.Room.{merged_few, merged_short}

-- the name numbers besides the mappings' were handed out: both datasets, the three sets
unfoldable pub rest_of : ℕ → Header → Header → Bool → Bool → Bool → Bool
rest_of names h g a b c = ltb h.dataset names && (ltb g.dataset names && (a && (b && c)))

-- what comes of a plan
abbrev pub Planned : Type 0
Planned = Result Laid Refusal

-- what comes of a merge: how many of each list the outcome has
abbrev pub Verdict : Type 0
Verdict = Result Counts Refusal

-- a plan's refusal, or 2 where the outcome does not fit, or the counts
unfoldable pub decide_of : Planned → ℕ → ℕ → ℕ → Lengths → Verdict
decide_of (Err r) a b c l = Err r
decide_of (Ok d) a b c l =
    cond (outcome_fits (counts_by a b c d.mappings d.intervals) l) (Ok (counts_by a b c d.mappings d.intervals)) (Err NoRoom)

-- the rooms of the lent lists, and what a merge is given
abbrev pub rooms_of : Lists → Rooms
rooms_of l = record {
  symbols = length l.symbols;
  partial = length l.partial;
  not_found = length l.not_found;
  mappings = length l.mappings / 2;
  intervals = length l.intervals / 3;
}

abbrev pub given : ℕ → Lists → Given
given names l = record { date = known_date; names = names; rooms = rooms_of l }

-- ---- bools

swap : (a x b y : Bool) → ((a && x) && (b && y)) ≡ ((a && b) && (x && y))
swap true x true y = refl
swap true true false y = refl
swap true false false y = refl
swap false x b y = refl

-- ---- tests of both sides are tests of all

every_add : (p : ℕ → Bool) (ys : List ℕ) (x : ℕ) → every p (add ys x) ≡ (every p ys && p x)
unfolding every add
every_add p [] x = end (p x)
  where
    end : (b : Bool) → (b && true) ≡ (true && b)
    end true = refl
    end false = refl
every_add p (y ∷ ys) x =
    eqb_case (λ (l : List ℕ). every p l ≡ ((p y && every p ys) && p x)) y x _ _
    (λ e. twice (p y) (every p ys) (p x) (ap p e))
    (λ d. ap (λ (b : Bool). p y && b) (every_add p ys x) ∙ sym (and_assoc (p y) (every p ys) (p x)))
  where
    twice : (a b c : Bool) → a ≡ c → (a && b) ≡ ((a && b) && c)
    twice true true true e = refl
    twice true true false e = e
    twice true false c e = refl
    twice false b c e = refl

every_all : (p : ℕ → Bool) (xs ys : List ℕ) → every p (add_all ys xs) ≡ (every p ys && every p xs)
unfolding every add_all
every_all p [] ys = end (every p ys)
  where
    end : (b : Bool) → b ≡ (b && true)
    end true = refl
    end false = refl
every_all p (x ∷ xs) ys =
    every_all p xs (add ys x) ∙ ap (λ (b : Bool). b && every p xs) (every_add p ys x) ∙ and_assoc (every p ys) (p x) (every p xs)

interval_append : (p : Interval → Bool) (xs ys : List Mapping) → every_interval p (xs ++ ys) ≡ (every_interval p xs && every_interval p ys)
unfolding every_interval
interval_append p xs ys = every_append (λ (m : Mapping). every p m.intervals) xs ys

dates_both : (date : ℕ → Bool) (xs ys : List Mapping) → dates_known date (xs ++ ys) ≡ (dates_known date xs && dates_known date ys)
unfolding dates_known
dates_both date xs ys = interval_append (λ x. date x.start && date x.end) xs ys

forwards_both : (xs ys : List Mapping) → forwards (xs ++ ys) ≡ (forwards xs && forwards ys)
unfolding forwards
forwards_both xs ys = interval_append (λ x. leb x.start x.end) xs ys

known_both : (names : ℕ) (xs ys : List Mapping) → mappings_known names (xs ++ ys) ≡ (mappings_known names xs && mappings_known names ys)
unfolding mappings_known
known_both names xs ys =
    ap (λ (b : Bool). b && every_interval (λ x. ltb x.symbol names) (xs ++ ys)) (every_append (λ (k : Mapping). ltb k.name names) xs ys)
    ∙ ap (λ (b : Bool). (every (λ (k : Mapping). ltb k.name names) xs && every (λ (k : Mapping). ltb k.name names) ys) && b) (interval_append (λ x. ltb x.symbol names) xs ys)
    ∙ swap (every (λ (k : Mapping). ltb k.name names) xs) (every (λ (k : Mapping). ltb k.name names) ys) (every_interval (λ x. ltb x.symbol names) xs) (every_interval (λ x. ltb x.symbol names) ys)

-- ---- the parts, and the whole

module _ (names : ℕ) (h : Header) (l : Lists) (g : Header) (r : Lists) where
  abbrev pub left : Metadata
  left = opened (metadata_of h l)

  abbrev pub right : Metadata
  right = metadata_of g r

  abbrev pub all : List Mapping
  all = both_sides l.mappings h.mappings l.intervals r.mappings g.mappings r.intervals

  all_split : all ≡ left.mappings ++ right.mappings
  unfolding both_sides opened metadata_of
  all_split = refl

  -- what is known of the sets
  pub record Sets (ka : Bool) (ca : ℕ) (ta : List ℕ) (kb : Bool) (cb : ℕ) (tb : List ℕ) (kc : Bool) (cc' : ℕ) (tc : List ℕ) : Type 0 where
    pub symbols : IsUnited (take h.symbols l.symbols) (take g.symbols r.symbols) names ka ca ta
    pub partial : IsUnited (take h.partial l.partial) (take g.partial r.partial) names kb cb tb
    pub not_found : IsUnited (take h.not_found l.not_found) (take g.not_found r.not_found) names kc cc' tc

  rest_same : (ka : Bool) (ca : ℕ) (ta : List ℕ) (kb : Bool) (cb : ℕ) (tb : List ℕ) (kc : Bool) (cc' : ℕ) (tc : List ℕ) → Sets ka ca ta kb cb tb kc cc' tc
      → rest_of names h g ka kb kc ≡ (rest_known names left && rest_known names right)
  unfolding rest_of rest_known opened metadata_of below
  rest_same ka ca ta kb cb tb kc cc' tc s =
      rw (
        s.symbols.all_known,
        s.partial.all_known,
        s.not_found.all_known,
        every_all (below names) (take g.symbols r.symbols) (once (take h.symbols l.symbols)),
        every_all (below names) (take g.partial r.partial) (once (take h.partial l.partial)),
        every_all (below names) (take g.not_found r.not_found) (once (take h.not_found l.not_found)),
      )
      (four (ltb h.dataset names) (ltb g.dataset names)
      (every (below names) (once (take h.symbols l.symbols))) (every (below names) (take g.symbols r.symbols))
      (every (below names) (once (take h.partial l.partial))) (every (below names) (take g.partial r.partial))
      (every (below names) (once (take h.not_found l.not_found))) (every (below names) (take g.not_found r.not_found)))
    where
      four : (a a' b b' c c' d d' : Bool) → (a && (a' && ((b && b') && ((c && c') && (d && d'))))) ≡ ((a && (b && (c && d))) && (a' && (b' && (c' && d'))))
      four a a' b b' c c' d d' =
          sym (swap a (b && (c && d)) a' (b' && (c' && d'))
          ∙ ap (λ (x : Bool). (a && a') && x) (swap b (c && d) b' (c' && d') ∙ ap (λ (x : Bool). (b && b') && x) (swap c d c' d'))
          ∙ and_assoc a a' ((b && b') && ((c && c') && (d && d'))))

  -- 11, 3, 1 of both sides, in terms of all mappings
  agreed_same : (rest : Bool) → rest ≡ (rest_known names left && rest_known names right)
      → agreed_merge (given names l) left right
      ≡ cond (dates_known known_date all) (cond (rest && mappings_known names all) (cond (forwards all) (if_merged (rooms_of l) left right (by_name all)) (stopped (answer 1 []))) (stopped (answer 3 []))) (stopped (answer 11 []))
  unfolding agreed_merge names_known
  agreed_same rest e =
      let d = ap (dates_known known_date) all_split ∙ dates_both known_date left.mappings right.mappings in
      let f = ap forwards all_split ∙ forwards_both left.mappings right.mappings in
      let n : (rest && mappings_known names all) ≡ ((rest_known names left && mappings_known names left.mappings) && (rest_known names right && mappings_known names right.mappings)) =
      ap (λ (b : Bool). b && mappings_known names all) e
      ∙ ap (λ (b : Bool). (rest_known names left && rest_known names right) && b) (ap (mappings_known names) all_split ∙ known_both names left.mappings right.mappings)
      ∙ swap (rest_known names left) (rest_known names right) (mappings_known names left.mappings) (mappings_known names right.mappings) in
      sym (rw (d, n, f, all_split) refl)

-- ---- the verdict

-- the outcome x is a metadata with these fields that stands in t, c of each list, and fits the lists of these lengths
pub record Fitted (x : Outcome) (f : Fields) (l : Lengths) (c : Counts) (t : Lists) : Type 0 where
  pub value : Metadata
  pub is : x ≡ done value
  pub fields : value.fields ≡ f
  pub stands_in : StandsIn value c t
  pub room : outcome_fits c l ≡ true

-- what a verdict says of the outcome x
abbrev pub Decided : Outcome → Fields → Lengths → Verdict → Lists → Type 0
Decided x f l (Err r) t = x ≡ stopped (refused r)
Decided x f l (Ok c) t = Fitted x f l c t

unfoldable pub Deciding : Outcome → Fields → Lengths → Verdict → Lists → Type 0
Deciding x f l v t = Decided x f l v t

module _ (names : ℕ) (h : Header) (l : Lists) (g : Header) (r : Lists) (ka : Bool) (ca : ℕ) (ta : List ℕ) (kb : Bool) (cb : ℕ) (tb : List ℕ) (kc : Bool) (cd : ℕ) (tc : List ℕ)
    (s : Sets names h l g r ka ca ta kb cb tb kc cd tc) (om out om' out' : List ℕ) (fit_m : 2 * length (all names h l g r) ≤ length om) (fit_v : 3 * count_intervals (all names h l g r) ≤ length out) where
  abbrev ends : List Mapping → Metadata
  ends ms = together (left names h l g r) (right names h l g r) ms

  counts_same : (ms : List Mapping) (q k : ℕ) → q ≡ length ms → k ≡ count_intervals ms → fits (rooms_of l) (ends ms) ≡ outcome_fits (counts_by ca cb cd q k) (lengths_of l)
  unfolding fits outcome_fits together opened metadata_of
  counts_same ms q k a b = rw (s.symbols.united.how_many, s.partial.united.how_many, s.not_found.united.how_many, a, b) refl

  laid_fits : (ms : List Mapping) (q k : ℕ) → Stands ms om' q out' k → (b : Bool) → outcome_fits (counts_by ca cb cd q k) (lengths_of l) ≡ b
      → Decided (cond b (done (ends ms)) (stopped (answer 2 []))) (fields_of (header_fields h) (header_fields g)) (lengths_of l) (cond b (Ok (counts_by ca cb cd q k)) (Err NoRoom)) (lists ta tb tc om' out')
  unfolding together opened metadata_of
  laid_fits ms q k d false e = refl
  laid_fits ms q k d true e = record {
    value = ends ms;
    is = refl;
    fields = refl;
    stands_in = record {
      n_symbols = s.symbols.united.how_many;
      symbols = s.symbols.united.stand;
      n_partial = s.partial.united.how_many;
      partial = s.partial.united.stand;
      n_not_found = s.not_found.united.how_many;
      not_found = s.not_found.united.stand;
      n_mappings = d.how_many;
      mappings = front_maps d;
      n_intervals = d.how_long;
      intervals = front_spans d;
    };
    room = e;
  }

  halted_case : (p : Planned) (why : Refusal) → end_plan p om' out' ≡ halted why
      → Decided (stopped (refused why)) (fields_of (header_fields h) (header_fields g)) (lengths_of l) (decide_of p ca cb cd (lengths_of l)) (lists ta tb tc om' out')
  unfolding end_plan decide_of
  halted_case (Err x) why e = let z : x ≡ why = cc in ap (λ (k : Refusal). stopped (refused k)) (sym z)
  halted_case (Ok d) why e = let z : ◌≡◌ {A = ℕ} 0 1 = cc in absurd (omega arith)

  merged_case : (p : Planned) (m : Merged) → by_name (all names h l g r) ≡ m → end_plan p om' out' ≡ shown_merged om out m
      → Decided (if_merged (rooms_of l) (left names h l g r) (right names h l g r) m) (fields_of (header_fields h) (header_fields g)) (lengths_of l) (decide_of p ca cb cd (lengths_of l)) (lists ta tb tc om' out')
  unfolding shown_merged if_merged if_fits end_plan decide_of
  merged_case p conflicting b e = halted_case p Conflict e
  merged_case (Err x) (merged ms) b e = let z : ◌≡◌ {A = ℕ} 0 1 = cc in absurd (omega arith)
  merged_case (Ok o) (merged ms) b e =
      let f : placed om' o.mappings out' o.intervals ≡ lay_all om 0 out 0 ms = cc in
      let x = merged_few (all names h l g r) ms b in
      let y = merged_short (all names h l g r) ms b in
      let d = stands ms om out om' out' o.mappings o.intervals f (omega arith) (omega arith) in
      let n = counts_by ca cb cd o.mappings o.intervals in
      subst (λ (t : Bool). Decided (cond t (done (ends ms)) (stopped (answer 2 []))) (fields_of (header_fields h) (header_fields g)) (lengths_of l) (cond (outcome_fits n (lengths_of l)) (Ok n) (Err NoRoom)) (lists ta tb tc om' out'))
      (sym (counts_same ms o.mappings o.intervals d.how_many d.how_long))
      (laid_fits ms o.mappings o.intervals d (outcome_fits n (lengths_of l)) refl)

  cases : (p : Planned) (d n f : Bool) → end_plan p om' out' ≡ plan_on (judged_of d n f) om out (all names h l g r)
      → Decided (cond d (cond n (cond f (if_merged (rooms_of l) (left names h l g r) (right names h l g r) (by_name (all names h l g r))) (stopped (answer 1 []))) (stopped (answer 3 []))) (stopped (answer 11 [])))
      (fields_of (header_fields h) (header_fields g)) (lengths_of l) (decide_of p ca cb cd (lengths_of l)) (lists ta tb tc om' out')
  unfolding plan_on judged_of
  cases p true true true e = merged_case p (by_name (all names h l g r)) refl e
  cases p true true false e = halted_case p Reversed e
  cases p true false f e = halted_case p UnknownSymbol e
  cases p false n f e = halted_case p NoDate e

  pub decided : (rest : Bool) → rest ≡ rest_of names h g ka kb kc → (p : Planned) → end_plan p om' out' ≡ plan_of names rest (all names h l g r) om out → (v : Verdict) → v ≡ decide_of p ca cb cd (lengths_of l)
      → Deciding (agreed_merge (given names l) (left names h l g r) (right names h l g r)) (fields_of (header_fields h) (header_fields g)) (lengths_of l) v (lists ta tb tc om' out')
  unfolding plan_of judged_all Deciding
  decided rest a p e v d =
      subst (λ (w : Verdict). Decided (agreed_merge (given names l) (left names h l g r) (right names h l g r)) (fields_of (header_fields h) (header_fields g)) (lengths_of l) w (lists ta tb tc om' out')) (sym d)
      (subst (λ (x : Outcome). Decided x (fields_of (header_fields h) (header_fields g)) (lengths_of l) (decide_of p ca cb cd (lengths_of l)) (lists ta tb tc om' out'))
      (sym (agreed_same names h l g r rest (a ∙ rest_same names h l g r ka ca ta kb cb tb kc cd tc s)))
      (cases p (dates_known known_date (all names h l g r)) (rest && mappings_known names (all names h l g r)) (forwards (all names h l g r)) e))

pub decide_refused : (p : Planned) (a b c : ℕ) (l : Lengths) (r : Refusal) → p ≡ Err r → Err r ≡ decide_of p a b c l
unfolding decide_of
decide_refused p a b c l r e = ap (λ (x : Planned). decide_of x a b c l) (sym e)

pub decide_fits : (p : Planned) (a b c : ℕ) (l : Lengths) (o : Laid) (t : Bool) → p ≡ Ok o → t ≡ outcome_fits (counts_by a b c o.mappings o.intervals) l
    → t ≡ true → Ok (counts_by a b c o.mappings o.intervals) ≡ decide_of p a b c l
unfolding decide_of
decide_fits p a b c l o t e d y =
    sym (ap (λ (x : Planned). decide_of x a b c l) e
    ∙ ap (λ (x : Bool). cond x (Ok (counts_by a b c o.mappings o.intervals)) (Err NoRoom)) (sym d ∙ y))

pub decide_short : (p : Planned) (a b c : ℕ) (l : Lengths) (o : Laid) (t : Bool) → p ≡ Ok o → t ≡ outcome_fits (counts_by a b c o.mappings o.intervals) l
    → t ≡ false → Err NoRoom ≡ decide_of p a b c l
unfolding decide_of
decide_short p a b c l o t e d y =
    sym (ap (λ (x : Planned). decide_of x a b c l) e
    ∙ ap (λ (x : Bool). cond x (Ok (counts_by a b c o.mappings o.intervals)) (Err NoRoom)) (sym d ∙ y))
