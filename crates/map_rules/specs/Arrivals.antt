-- How a lookup arrives at a row of an ordered table: where its instrument begins, how far its moment reaches, and the last row that
-- has started, which is what the theory's lookup answers by. Assumes nothing.
use Rattle.std.specs.Prelude.{◌≡◌, ◌≢◌, Bool, true, ◌&&◌, List, [], ◌∷◌, get_or}
use Rattle.std.proofs.Math.Path.{refl, sym, ap}
use Rattle.std.proofs.Common.{◌∙◌}
use Prim.Native.Nat.{ℕ, suc, ◌+◌, ◌-◌, ◌*◌, ◌/◌, ◌≤◌, ◌<◌}
use Rattle.std.proofs.Math.Decide.{dec_le, dec_lt}
use native.Mathlib.Omega.{arith}
use Rattle.std.proofs.Math.Bool.{false}
use Rattle.std.proofs.Math.Option.{Option, none, some}
use Rattle.std.proofs.Math.ListN.{get_elem?}
use Rattle.std.proofs.Math.Dec.{leb, ltb, eqb}
use borrow.Author.Tests.{ltb-true, ltb-false, leb-true, leb-false, eqb-true, lt-ltb, le-ltb, eq-eqb, ne_eqb}
use Rattle.theory.specs.Bools.{both}
use Rattle.theory.specs.Answer.{Answer, answer}
use Rattle.theory.specs.Fields.{field}
use Rattle.theory.specs.Runs.{Interval}
use Rattle.theory.specs.RunsTools.{Order, less, equal, more, order}
use Rattle.map_rules.specs.Table.{Row, group, Ordered}
use Rattle.map_rules.specs.Groups.{Sorted, formed_iff}
use Rattle.map_rules.specs.Cuts.{Behind, behind, row_some}
use Rattle.map_rules.specs.Lookup.{Finding, says, seen, started, arrive, lookup_rows, lookup_rows_last}
use Rattle.map_rules.specs.Places.{own, lower, upper, group_place, started_place, Begins, lower_begins, Passed, Ahead, Reaches, upper_reaches}
use Rattle.map_rules.specs.Memory.{width, row_at, rows}
use Rattle.map_rules.specs.MemoryLaws.{blank, length_rows}
use Rattle.map_rules.specs.Search.{at_row}
use Rattle.map_rules.specs.Halves.{Probe, RowFrom, Parts, Finds, near_all}
use Rattle.map_rules.specs.Looks.{said_answer, Tells, Begun, Reach, last, covers_at, look_at, look_yes, look_no, Covering, covering, covers_own}

-- ---- the tests of the searches

-- the row at place k is of a lower instrument
unfoldable pub is_lower : List ℕ → ℕ → ℕ → Bool
is_lower t i k = ltb (row_at t k).instrument i

-- it has started
unfoldable pub is_started : List ℕ → ℕ → ℕ → Bool
is_started t m k = leb (row_at t k).start m

-- it is of the instrument and has started
unfoldable pub is_own_started : List ℕ → ℕ → ℕ → ℕ → Bool
is_own_started t i m k = eqb (row_at t k).instrument i && is_started t m k

module _ (t : List ℕ) (at : ℕ) {x : ℕ} where
  pub lower_probe : {b : Bool} (i : ℕ) → x ≡ field 4 t at → b ≡ ltb x i → Probe (is_lower t i) at b
  unfolding is_lower row_at
  lower_probe i e f = record { tells = λ k d. f ∙ ap (λ (y : ℕ). ltb y i) (e ∙ ap (field 4 t) d) }

  pub started_probe : {b : Bool} (m : ℕ) → x ≡ field 8 t (at + 8) → b ≡ leb x m → Probe (is_started t m) at b
  unfolding is_started row_at
  started_probe m e f = record { tells = λ k d. f ∙ ap (λ (y : ℕ). leb y m) (e ∙ ap (λ (y : ℕ). field 8 t (y + 8)) d) }

  module _ (i m : ℕ) (e : x ≡ field 4 t at) where
    pub other_probe : x ≢ i → Probe (is_own_started t i m) at false
    unfolding is_own_started row_at
    other_probe h = record { tells = λ k d. sym (ap (λ (q : Bool). q && is_started t m k) (ne_eqb _ i (λ z. h (e ∙ ap (field 4 t) d ∙ z)))) }

    pub own_probe : {b : Bool} → x ≡ i → Probe (is_started t m) at b → Probe (is_own_started t i m) at b
    unfolding is_own_started row_at
    own_probe h q = record {
      tells = λ k d. q.tells k d ∙ sym (ap (λ (z : Bool). z && is_started t m k) (eq-eqb _ i (sym (e ∙ ap (field 4 t) d) ∙ h)));
    }

-- ---- places

module _ (t : List ℕ) (used : ℕ) (w : Ordered (rows t used)) where
  sorted : Sorted (rows t used)
  sorted = ((formed_iff (rows t used)).0 w).sorted

  behind_row : (p q : ℕ) → p < q → q < used → Behind (row_at t p) (row_at t q)
  behind_row p q h k =
      let b : Behind (get_or (rows t used) p blank) (get_or (rows t used) q blank) = behind blank (rows t used) w p q h (rw (length_rows t 0 used) k) in
      rw (at_row t used p (omega arith), at_row t used q k) at b

  some_row : (k : ℕ) → k < used → (row_at t k).start < (row_at t k).end
  some_row k l = rw (at_row t used k l) at (row_some blank (rows t used) w k (rw (length_rows t 0 used) l))

  module _ (i : ℕ) where
    begins : Begins i (rows t used) blank (lower i (rows t used))
    begins = lower_begins i blank (rows t used)

    begins_in : lower i (rows t used) ≤ used
    begins_in = rw (length_rows t 0 used) at begins.within

    begin_row : (b : ℕ) → b ≡ lower i (rows t used) → b < used → i ≤ (row_at t b).instrument
    begin_row b e l = rw (← at_row t used b l, e) (begins.from (rw (length_rows t 0 used, ← e) l))

    -- a row of a lower instrument stands before them
    low_row : (k : ℕ) → k < used → (row_at t k).instrument < i → k < lower i (rows t used)
    low_row k l h = go (lower i (rows t used)) (begin_row (lower i (rows t used)) refl) (order k (lower i (rows t used)))
      where
        go : (b : ℕ) → (b < used → i ≤ (row_at t b).instrument) → Order k b → k < b
        go b f (less o) = o
        go b f (equal o) = absurd (let g : i ≤ (row_at t k).instrument = rw (← o) at f l in omega arith)
        go b f (more o) = absurd (omega (arith, f (omega arith), (behind_row b k o l).rises))

    -- any other does not
    high_row : (k : ℕ) → k < used → i ≤ (row_at t k).instrument → lower i (rows t used) ≤ k
    high_row k l h = go (dec_lt k (lower i (rows t used)))
      where
        go : Dec (k < lower i (rows t used)) → lower i (rows t used) ≤ k
        go (yes b) = absurd (let g : (row_at t k).instrument < i = rw (at_row t used k l) at (begins.below k b) in omega arith)
        go (no b) = omega arith

    module _ (m : ℕ) where
      reaches : Reaches i m (rows t used) blank (upper i m (rows t used))
      reaches = upper_reaches i m blank (rows t used)

      reaches_in : upper i m (rows t used) ≤ used
      reaches_in = rw (length_rows t 0 used) at reaches.within

      reach_row : (u : ℕ) → u ≡ upper i m (rows t used) → u < used → Ahead i m (row_at t u)
      reach_row u e l = rw (← at_row t used u l, e) (reaches.from (rw (length_rows t 0 used, ← e) l))

      passed_row : (k : ℕ) → k < used → k < upper i m (rows t used) → Passed i m (row_at t k)
      passed_row k l h = rw (at_row t used k l) at (reaches.below k h)

      -- a row that the moment has passed stands before the first that it does not reach
      on_row : (k : ℕ) → k < used → Passed i m (row_at t k) → k < upper i m (rows t used)
      on_row k l p = go (upper i m (rows t used)) (reach_row (upper i m (rows t used)) refl) (order k (upper i m (rows t used)))
        where
          go : (u : ℕ) → (u < used → Ahead i m (row_at t u)) → Order k u → k < u
          go u f (less o) = o
          go u f (equal o) =
              let f' : Ahead i m (row_at t k) = rw (← o) at f l in
              let e : (row_at t k).instrument ≡ i = omega (arith, p.upto, f'.from) in
              absurd (omega (arith, p.starts e, f'.starts e))
          go u f (more o) =
              let f' : Ahead i m (row_at t u) = f (omega arith) in
              let b : Behind (row_at t u) (row_at t k) = behind_row u k o l in
              let e : (row_at t k).instrument ≡ i = omega (arith, p.upto, f'.from, b.rises) in
              let e' : (row_at t u).instrument ≡ i = omega (arith, p.upto, f'.from, b.rises) in
              absurd (omega (arith, p.starts e, f'.starts e', b.apart (omega arith), some_row u (omega arith)))

      -- a row ahead of it does not
      off_row : (k : ℕ) → k < used → Ahead i m (row_at t k) → upper i m (rows t used) ≤ k
      off_row k l a = go (dec_lt k (upper i m (rows t used)))
        where
          go : Dec (k < upper i m (rows t used)) → upper i m (rows t used) ≤ k
          go (yes h) =
              let p : Passed i m (row_at t k) = passed_row k l h in
              let e : (row_at t k).instrument ≡ i = omega (arith, p.upto, a.from) in
              absurd (omega (arith, p.starts e, a.starts e))
          go (no h) = omega arith

      -- what follows a row that covers the moment is ahead of it
      next_row : (k : ℕ) → k + 1 < used → (row_at t k).instrument ≡ i → m < (row_at t k).end → Ahead i m (row_at t (k + 1))
      next_row k l e h =
          let b : Behind (row_at t k) (row_at t (k + 1)) = behind_row k (k + 1) (omega arith) l in
          record { from = omega (arith, b.rises); starts = λ d. omega (arith, b.apart (omega arith)) }

      started_from : upper i m (rows t used) ≡ lower i (rows t used) + started (group i (rows t used)) m
      started_from = started_place i m (rows t used) sorted

    own_row : (k j : ℕ) → lower i (rows t used) ≤ k → k ≤ j → j < used → (row_at t j).instrument ≡ i → (row_at t k).instrument ≡ i
    own_row k j h o l e = go (order k j) (dec_le i (row_at t k).instrument)
      where
        go : Order k j → Dec (i ≤ (row_at t k).instrument) → (row_at t k).instrument ≡ i
        go q (no f) = absurd (omega (arith, low_row k (omega arith) (omega arith)))
        go (less q) (yes f) = omega (arith, (behind_row k j q l).rises)
        go (equal q) (yes f) = rw q e
        go (more q) (yes f) = absurd (omega arith)

-- ---- where the tests turn

-- how far the moment reaches from the byte where the instrument begins
pub record Reached (t : List ℕ) (used i m begin r : ℕ) : Type 0 where
  pub reached : {g : ℕ} → begin ≡ g * width → Ordered (rows t used) → Begun t used i g 0 → r ≡ upper i m (rows t used) * width

module _ (t : List ℕ) (used i : ℕ) (w : Ordered (rows t used)) where
  lower_parts : Parts (is_lower t i) 0 used (lower i (rows t used))
  unfolding is_lower
  lower_parts = record {
    from = omega arith;
    upto = begins_in t used w i;
    before = λ k l h e. low_row t used w i k h (ltb-true _ i e);
    behind = λ k l h e. high_row t used w i k h (ltb-false _ i e);
  }

  pub begin_at : {r : ℕ} → Finds (is_lower t i) 0 used r → r ≡ lower i (rows t used) * width
  begin_at f = f.found lower_parts (near_all lower_parts (omega arith) (omega arith))

  pub begun_here : Begun t used i (lower i (rows t used)) 0
  begun_here = record { from = omega arith; upto = omega arith }

  pub begun_at : {r : ℕ} → Finds (is_lower t i) 0 used r → Begun t used i (r / width) 0
  begun_at f = let e = begin_at f in record { from = omega arith; upto = omega arith }

  module _ (m : ℕ) {g : ℕ} (b : Begun t used i g 0) where
    reach_from : g ≤ upper i m (rows t used)
    reach_from = omega (arith, b.from, started_from t used w i m)

    not_low : (k : ℕ) → g ≤ k → k < used → i ≤ (row_at t k).instrument
    not_low k l h = go (dec_le i (row_at t k).instrument)
      where
        go : Dec (i ≤ (row_at t k).instrument) → i ≤ (row_at t k).instrument
        go (yes a) = a
        go (no a) = absurd (omega (arith, b.upto, low_row t used w i k h (omega arith)))

    started_parts : 0 < used → (row_at t (used - 1)).instrument ≡ i → Parts (is_started t m) g used (upper i m (rows t used))
    unfolding is_started
    started_parts z d = record {
      from = reach_from;
      upto = reaches_in t used w i m;
      before = λ k l h e. on_row t used w i m k h (record { upto = omega (arith, own k l h); starts = λ d'. leb-true _ m e });
      behind = λ k l h e. off_row t used w i m k h (record { from = omega (arith, own k l h); starts = λ d'. leb-false _ m e });
    }
      where
        own : (k : ℕ) → g ≤ k → k < used → (row_at t k).instrument ≡ i
        own k l h = own_row t used w i k (used - 1) (omega (arith, b.upto)) (omega arith) (omega arith) d

    own_parts : (hi : ℕ) → hi ≤ used → upper i m (rows t used) ≤ hi → Parts (is_own_started t i m) g hi (upper i m (rows t used))
    unfolding is_own_started is_started
    own_parts hi u v = record {
      from = reach_from;
      upto = v;
      before = λ k l h e.
          let p = both (eqb (row_at t k).instrument i) (leb (row_at t k).start m) e in
          let d : (row_at t k).instrument ≡ i = eqb-true _ i p.0 in
          on_row t used w i m k (omega arith) (record { upto = omega arith; starts = λ d'. leb-true _ m p.1 });
      behind = λ k l h e. off_row t used w i m k (omega arith) (record { from = not_low k l (omega arith); starts = λ d. late k d e });
    }
      where
        late : (k : ℕ) → (row_at t k).instrument ≡ i → eqb (row_at t k).instrument i && leb (row_at t k).start m ≡ false → m < (row_at t k).start
        late k d e = leb-false _ m (sym (ap (λ (z : Bool). z && leb (row_at t k).start m) (eq-eqb _ i d)) ∙ e)

module _ (t : List ℕ) (used i m : ℕ) {begin r : ℕ} where
  -- the table's last row is the instrument's, and so are all from its first on
  pub reached_own : {x : ℕ} → width ≤ used * width → x ≡ field 4 t (used * width - width) → x ≡ i
      → Finds (is_started t m) begin ((used * width - begin) / width) r → begin ≤ used * width → Reached t used i m begin r
  unfolding row_at
  reached_own h e d f l = record {
    reached = λ {g} q w b.
        let z : used * width - width ≡ (used - 1) * width = omega arith in
        let s = started_parts t used i w m b (omega arith) (sym (e ∙ ap (field 4 t) z) ∙ d) in
        f.found s (near_all s q (omega arith));
  }

  -- a row soon after its first is of a higher instrument
  pub reached_few : {x : ℕ} → begin + 744 + width ≤ used * width → x ≡ field 4 t (begin + 744) → i < x → Finds (is_own_started t i m) begin 31 r → Reached t used i m begin r
  unfolding row_at
  reached_few h e d f = record {
    reached = λ {g} q w b.
        let z : begin + 744 ≡ (g + 31) * width = omega arith in
        let y : (row_at t (g + 31)).instrument ≡ _ = sym (e ∙ ap (field 4 t) z) in
        let a : Ahead i m (row_at t (g + 31)) = record { from = omega arith; starts = λ d'. absurd (omega arith) } in
        let s = own_parts t used i w m b (g + 31) (omega arith) (off_row t used w i m (g + 31) (omega arith) a) in
        f.found s (near_all s q (omega arith));
  }

  pub reached_any : Finds (is_own_started t i m) begin ((used * width - begin) / width) r → begin ≤ used * width → Reached t used i m begin r
  reached_any f l = record {
    reached = λ {g} q w b.
        let s = own_parts t used i w m b used (omega arith) (reaches_in t used w i m) in
        f.found s (near_all s q (omega arith));
  }

-- the same by places
pub reach_at : (t : List ℕ) (used i m : ℕ) {g r : ℕ} → g ≤ used → Finds (is_own_started t i m) (g * width) (used - g) r → Ordered (rows t used) → Begun t used i g 0
    → Reach t used i m (r / width) (r / width)
reach_at t used i m l f w b =
    let s = own_parts t used i w m b used (omega arith) (reaches_in t used w i m) in
    let e = f.found s (near_all s refl (omega arith)) in
    record { from = omega arith; upto = omega arith }

-- ---- the last that has started

tells : (f : Finding ℕ) (o : Option ℕ) (h : ℕ) → f.said ≡ o → f.hint ≡ h → Tells f (said_answer h o) h
tells f o h d e = record { answers = sym (λ j. said_answer (e j) (d j)); hints = sym e }

module _ (t : List ℕ) (used i m : ℕ) (w : Ordered (rows t used)) {g : ℕ} (a : Begun t used i g 0) where
  begin_is : lower i (rows t used) ≡ g
  begin_is = omega (arith, a.from, a.upto)

  seen_place : (k : ℕ) → seen (group i (rows t used)) k m ≡ look_at t used (g + k) i m
  unfolding seen look_at
  seen_place k =
      ap (λ (o : Option (Interval ℕ)). says o m) (group_place i (rows t used) (sorted t used w) k)
      ∙ ap (λ (c : ℕ). says (own i (get_elem? (rows t used) (c + k))) m) begin_is

  -- the last that has started is the instrument's interval number k
  arrive_at : (h k : ℕ) → upper i m (rows t used) ≡ g + k + 1 → (o : Option ℕ) → look_at t used (g + k) i m ≡ o → Tells (last t used i m h) (said_answer k o) k
  unfolding arrive
  arrive_at h k z o e =
      let q : started (group i (rows t used)) m ≡ suc k = omega (arith, a.from, a.upto, started_from t used w i m) in
      rw q (tells _ o k (seen_place k ∙ e) refl)

  -- the hinted one, or the one that follows it
  pub arrive_hit : {at k : ℕ} {c : Bool} {r : Answer} (h n : ℕ) → at ≡ (g + n) * width → Probe (covers_at t used i m) at c → c ≡ true
      → ((j : ℕ) → at ≡ j * width → r ≡ answer 0 (n ∷ (row_at t j).value ∷ [])) → k ≡ n → Tells (last t used i m h) r k
  unfolding said_answer
  arrive_hit h n z p f q e =
      let v : Covering t used (g + n) i m = covering t used (g + n) i m (p.tells (g + n) z) f in
      rw (q (g + n) z, e) (arrive_at h n (reach_here v) (some (row_at t (g + n)).value) (look_yes t used (g + n) i m (p.tells (g + n) z) f))
    where
      reach_here : Covering t used (g + n) i m → upper i m (rows t used) ≡ g + n + 1
      reach_here v = go (dec_lt (g + n + 1) used)
        where
          up : g + n < upper i m (rows t used)
          up = on_row t used w i m (g + n) v.in_use (record { upto = omega (arith, v.own); starts = λ d. v.starts })

          go : Dec (g + n + 1 < used) → upper i m (rows t used) ≡ g + n + 1
          go (yes l) = let d : upper i m (rows t used) ≤ g + n + 1 = off_row t used w i m (g + n + 1) l (next_row t used w i m (g + n) l v.own v.ends) in omega (arith, up)
          go (no l) = omega (arith, up, v.in_use, reaches_in t used w i m)

  -- the last that has started, by the bytes where the instrument begins and where the first that has not does
  module _ {begin end : ℕ} (q : begin ≡ g * width) (f : Reached t used i m begin end) (h : ℕ) where
    end_is : end ≡ upper i m (rows t used) * width
    end_is = f.reached q w a

    module _ {x : Row ℕ} (l : begin + width ≤ end) (x_is : RowFrom t (end - width) x) where
      number : ℕ
      number = (end - begin) / width - 1

      reach_is : upper i m (rows t used) ≡ g + number + 1
      unfolding number
      reach_is = omega (arith, end_is)

      row_is : x ≡ row_at t (g + number)
      unfolding number
      row_is = x_is.row (g + number) (omega (arith, end_is))

      own_is : ltb m x.end ≡ covers_at t used i m (g + number)
      own_is =
          let k : ℕ = g + number in
          let u : k < used = omega (arith, reach_is, reaches_in t used w i m) in
          let p : Passed i m (row_at t k) = passed_row t used w i m k u (omega (arith, reach_is)) in
          let d : (row_at t k).instrument ≡ i = omega (arith, p.upto, not_low t used i w m a k (omega arith) u) in
          ap (λ (y : Row ℕ). ltb m y.end) row_is ∙ covers_own t used k i m u d (p.starts d)

      pub arrive_in : m < x.end → Tells (last t used i m h) (answer 0 (((end - begin) / width - 1) ∷ x.value ∷ [])) ((end - begin) / width - 1)
      unfolding said_answer number
      arrive_in z =
          rw row_is (arrive_at h number reach_is (some (row_at t (g + number)).value) (look_yes t used (g + number) i m own_is (lt-ltb m x.end z)))

      pub arrive_past : x.end ≤ m → Tells (last t used i m h) (answer 0 (((end - begin) / width - 1) ∷ [])) ((end - begin) / width - 1)
      unfolding said_answer number
      arrive_past z = arrive_at h number reach_is none (look_no t used (g + number) i m own_is (le-ltb m x.end z))

    pub arrive_none : end < begin + width → Tells (last t used i m h) (answer 0 (h ∷ [])) h
    unfolding arrive said_answer
    arrive_none l =
        let z : started (group i (rows t used)) m ≡ 0 = omega (arith, end_is, a.from, a.upto, started_from t used w i m) in
        rw z (record { answers = refl; hints = refl })

-- ---- a lookup: on an ordered table whatever the hint

pub look_last : (t : List ℕ) (used i m h : ℕ) {r : Answer} {k : ℕ} → Ordered (rows t used) → Tells (last t used i m h) r k → Tells (lookup_rows (rows t used) i m h) r k
look_last t used i m h w s =
    let e : lookup_rows (rows t used) i m h ≡ last t used i m h = lookup_rows_last (rows t used) w i m h in
    rw e s
