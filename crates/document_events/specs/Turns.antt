-- The loop over a document's tokens: what a turn leaves, and what the document reads as where the loop ends.
use Rattle.std.specs.Prelude.{ℕ, zero, suc, ◌+◌, ◌*◌, ◌-◌, ◌≤◌, ◌<◌, ◌≡◌, refl, Bool, true, List, ◌++◌, length, Result, Ok, Err}
use Rattle.std.proofs.Common.{sym, ◌∙◌, ap, subst, arith}
use Rattle.rules.specs.Settings.{Settings}
use Rattle.rules.specs.Bytes.{byte_at, MDC, TAGLVL, document_limit, element_limit}
use Rattle.rules.specs.Reading.{refused, got}
use Rattle.rules.specs.TypeFile.{Element}
use Rattle.rules.specs.Lent.{bytes_of}
use Rattle.rules.specs.Judge.{Accepts}
use Rattle.rules.specs.Document.{Tag, start_tag, piece}
use Rattle.rules.specs.Document as text
use Rattle.rules.specs.Events.{Event}
use Rattle.rules.specs.Given.{with_attributes}
use Rattle.rules.specs.Settling.{State, end_element, end_document}
use Rattle.rules.specs.Settling as rules
use Rattle.rules.specs.Records.{Line, is_fresh, mark_behind, records_settled}
use Rattle.rules.specs.Reader.{piece_under, document, event_numbers}
use Rattle.numbers.specs.Stores.{written_none}
use Rattle.text.specs.declared.Refusal.{Refusal}
use Rattle.text.specs.declared.Fault.{Fault}
use Rattle.text.specs.Refusal.{number_of, fault_at}
use Rattle.layout.specs.declared.ElementNo.{ElementNo}
use Rattle.layout.specs.Typed.{element_no}
use Rattle.rules_laws.specs.Holds.{got_so}
use Rattle.rules_laws.specs.Runs.{run_end}
use Rattle.rules_laws.specs.BeforeStarts.{with_append}
use Rattle.rules_laws.specs.Pieces.{piece_start_tag, piece_read}
use Rattle.layout.specs.Sizes.{MOST_EVENTS}
use Rattle.document_laws.specs.Decide.{decided}
use Rattle.document_laws.specs.OneReading.{accepted_decided}
use Rattle.document_laws.specs.Moves.{state}
use Rattle.document_laws.specs.Under.{Stands, unchanged, ignored, stands, under_text, under_refused}
use Rattle.document_laws.specs.Same.{passes_begun}
use Rattle.type_laws.specs.Names.{number_of_range}
use Rattle.record_laws.specs.Fresh.{passes_fresh}
use Rattle.record_due.specs.Due.{due, due_none}
use Rattle.turn_laws.specs.RunAtOnce.{take_run}
use Rattle.turn_laws.specs.Turns.{Reaches, reaches_start, reaches_end, refused_piece, refused_undeclared_start, refused_undeclared_end, reaches_start_tag, refused_start_tag, reaches_end_tag, refused_end_tag, reaches_skipped, reaches_blank, reaches_run, refused_run}
use Rattle.turn_laws.specs.Latest.{Latest, latest_start, latest_start_tag, latest_end_tag, latest_run, end_settles}
use Rattle.element_index.specs.Indexed.{Indexed}
use Rattle.list_table.specs.Lists.{Lists}
use Rattle.type_tables.specs.Tables.{Tables, Entered}
use Rattle.open_elements.specs.declared.OpenElements.{OpenElements}
use Rattle.open_elements.specs.declared.Outcome.{Outcome}
use Rattle.open_elements.specs.Stands.{fresh, Ranged}
use Rattle.open_elements.specs.Becomes.{Got, StandsWith}
use Rattle.open_elements.specs.Methods.{stands_fresh, ranged_fresh}
use Rattle.inferring.specs.declared.Stop.{Stop}
use Rattle.inferring.specs.Inferring.{Stops}
use Rattle.placing.specs.Noting.{written_of, shown_of}
use Rattle.record_ends.specs.Held.{line_of, is_held, shown_end, Frees}
use Rattle.record_ends.specs.Ignoring.{shown_short, shown_whole, shown_tag}
use Rattle.token_due.specs.Shown.{ends_are, starts_are, due_token}
use Rattle.token_due.specs.Freed.{Has, has_behind, freed}
use Rattle.token_due.specs.EndTags.{due_end_tag}
use Rattle.settling.specs.Settled.{takes, takes_start, takes_run, Gives, RefusesToken, Settles}
use Rattle.closing.specs.Closed.{TaggedGot, TaggedRefused, FinishedGot, FinishedRefused}
use Rattle.pieces.specs.declared.Found.{Found}
use Rattle.pieces.specs.Finds.{malformed, misgiven, undeclared_start, undeclared_end, Unread, Finds}
use Rattle.blanks.specs.declared.Next.{Next}
use Rattle.blanks.specs.declared.Next.TheVariants as next
use Rattle.blanks.specs.Next.{skips, separates, Runs, ToSettle, runs, starts, Follows, MarksOf, Ahead}
use Rattle.blanks.specs.Blanks.{under_misgiven, named_start, named_end}
use Rattle.document_events.specs.Loop.{EventsOf, Turned, Going}
use Rattle.document_events.specs.Again.{stands_again}

-- A start tag

-- What is read as a start tag is one in the text, and ends with `>`.
module _ (c : Settings) (s : List ℕ) (es : List Element) (d : List ℕ) (at : ℕ) (l : Line) (o : rules.Open) {t : Tag} (e : piece_under c s es d at l o ≡ got (start_tag t)) where
  start_text : piece c.name_length d at ≡ got (start_tag t)
  start_text =
      let u = under_text c s es d at l o e in
      by_stands u.text (start_tag t) (subst (Stands c s es d at l o u.text) u.is (stands c s es d at l o u.text)) refl u.there
    where
      by_stands : (q p : text.Piece) → Stands c s es d at l o q p → p ≡ start_tag t → piece c.name_length d at ≡ got q → piece c.name_length d at ≡ got (start_tag t)
      by_stands q p unchanged i there = there ∙ ap got i
      by_stands q p (ignored n) i there = let no : ◌≡◌ {A = ℕ} 0 1 = cc in absurd (omega arith)

  start_closes : at < length d → byte_at d (t.after - 1) ≡ MDC
  start_closes inside = (got_so (piece_read c.name_length d at inside) start_text).closes

-- What a token comes to

-- The events of a run of data end with it.
latest_data : (c : Settings) (d : List ℕ) (at after : ℕ) → at < after → (ev : List Event) (x : ℕ) (opens : Bool) (taken : ℕ) → x ≡ 0 → Latest c d after at (ev ++ written_of x opens taken at after)
latest_data c d at after h ev zero opens taken e = latest_run c d after at h ev
latest_data c d at after h ev (suc k) opens taken e = absurd (omega arith)

module _ (c : Settings) (s : List ℕ) (es : List Element) (d M : List ℕ) (at since mark : ℕ) (z : State) (h : at < length d) (reach : Reaches c s es d at (line_of since mark) z) (x after : ℕ) where
  -- An end tag.
  module _ (it : Follows c s es d (line_of since mark) z.current at (next.End (element_no x) after)) where
    turned_end : {begun : List ℕ} (r : Outcome) {events : List Event} (from : ℕ) → Got (StandsWith es M begun r.open events) (end_element s es (decided s es) x at after z) → Turned c s es d M begun at after mark from events (Ok r)
    turned_end r from (y, e, came) =
        let (n, i) = it in
        (y, came, reaches_end_tag reach h n.there x n.number i e, latest_end_tag c s es d at (line_of since mark) z h x from n.there e)

    end_refused : {k : ℕ} → end_element s es (decided s es) x at after z ≡ refused k at → document c s es (decided s es) d ≡ refused k at
    end_refused e = let (n, i) = it in refused_end_tag reach h n.there x n.number i e

  -- A run of data: the rules take its place with each byte.
  module _ {given : Settings} (accepted : Accepts given s es) (nothing : x ≡ 0) (f : Runs c s es d (line_of since mark) z.current at after) where
    all_run : take_run s es (decided s es) at (run_end d (at + 1) - at) z ≡ takes s es x at after z
    all_run = ap (λ (k : ℕ). take_run s es (decided s es) at (k - at) z) (sym f.ends) ∙ sym (takes_run s es at after z x nothing)

    turned_run : at < after → {begun : List ℕ} (r : Outcome) (ev : List Event) (opens : Bool) (taken : ℕ) → Got (StandsWith es M begun r.open (ev ++ written_of x opens taken at after)) (takes s es x at after z)
        → Turned c s es d M begun at after mark at (ev ++ written_of x opens taken at after) (Ok r)
    turned_run on r ev opens taken (y, e, came) =
        let (v, again, there) = reaches_run reach h f.run f.fits accepted (all_run ∙ e) in
        let begins = (passes_begun s es (decided s es) (accepted_decided s es accepted) d there.passes).current in
        let w = state v y.around y.events in
        let there_on : Reaches c s es d after (line_of after mark) w = subst (λ (k : ℕ). Reaches c s es d k (line_of k mark) w) (sym f.ends) there in
        (w, (stands_again came.0 again begins, came.1), there_on, subst (Latest c d after at) (sym came.1) (latest_data c d at after on ev x opens taken nothing))

  -- A start tag or a run of data, for 0.
  turned_token : {given : Settings} → Accepts given s es → at < after → ToSettle c s es d (line_of since mark) z.current at x after → {begun : List ℕ} (r : Outcome) (ev : List Event) (opens : Bool) (taken : ℕ)
      → Got (StandsWith es M begun r.open (ev ++ written_of x opens taken at after)) (takes s es x at after z) → Turned c s es d M begun at after mark at (ev ++ written_of x opens taken at after) (Ok r)
  turned_token accepted on (starts i n) r ev opens taken (y, e, came) =
      let is = sym (takes_start s es at after z x i) ∙ e in
      (y, came, reaches_start_tag reach h n.there x n.number i is, latest_start_tag c s es d at (line_of since mark) z h x at n.there is)
  turned_token accepted on (runs nothing f) r ev opens taken b = turned_run accepted nothing f on r ev opens taken b

  token_refused : {given : Settings} → Accepts given s es → ToSettle c s es d (line_of since mark) z.current at x after → {k : ℕ} → takes s es x at after z ≡ refused k at → document c s es (decided s es) d ≡ refused k at
  token_refused accepted (starts i n) e = refused_start_tag reach h n.there x n.number i (sym (takes_start s es at after z x i) ∙ e)
  token_refused accepted (runs nothing f) e = refused_run reach h f.run f.fits (all_run accepted nothing f ∙ e)

-- The element of a start tag is declared.
settles_declared : (c : Settings) (s : List ℕ) (es : List Element) (d : List ℕ) (l : Line) (o : rules.Open) (at x after : ℕ) → ToSettle c s es d l o at x after → x ≤ length es
settles_declared c s es d l o at x after (runs z f) = omega arith
settles_declared c s es d l o at x after (starts i n) = omega (arith, n.number, number_of_range s es d n.name n.size)

-- What is refused whatever is open.
refused_unread : (c : Settings) (s : List ℕ) (es : List Element) (d : List ℕ) (at : ℕ) (l : Line) (z : State) → at < length d → Reaches c s es d at l z → (number position : ℕ)
    → Unread c.name_length s es d at number position → document c s es (decided s es) d ≡ refused number position
refused_unread c s es d at l z h reach n k (malformed e) = refused_piece reach h (under_refused c s es d at l z.current e)
refused_unread c s es d at l z h reach n k (misgiven e i) = refused_piece reach h (under_misgiven c s es d at l z.current e i)
refused_unread c s es d at l z h reach n k (undeclared_start m e i) =
    let u = named_start c s es d at l z.current m in
    rw (e, i) (refused_undeclared_start reach h u.there u.number)
refused_unread c s es d at l z h reach n k (undeclared_end m e i) =
    let u = named_end c s es d at l z.current m in
    rw (e, i) (refused_undeclared_end reach h u.there u.number)

-- The loop

pub going_start : (c : Settings) (s elements index rows places facts M lists d begun numbers bytes : List ℕ) {o : OpenElements} → o ≡ fresh → Going c s elements index rows places facts M lists d begun numbers numbers bytes bytes 0 0 0 0 0 o
unfolding event_numbers bytes_of with_attributes
going_start c s elements index rows places facts M lists d begun numbers bytes q =
    rw q (record {
      inside = omega arith;
      since_inside = omega arith;
      from_inside = omega arith;
      few = omega arith;
      ranged = ranged_fresh;
      numbers_same = refl;
      bytes_same = refl;
      any = λ es i t l.
          record {
            state = rules.nothing_open;
            reaches = reaches_start c s es d;
            latest = latest_start c d 0;
            stands = stands_fresh es M begun;
            has = rw (due_none c d) record { counted = refl; holds = record { numbers_kept = refl; bytes_kept = refl; numbers_hold = written_none numbers; bytes_hold = written_none bytes } };
          };
    })

-- All is read.
module _ {c : Settings} {s elements index rows places facts M lists d begun numbers numbers_now bytes bytes_now : List ℕ} {n at since mark from : ℕ} {o : OpenElements}
    (g : Going c s elements index rows places facts M lists d begun numbers numbers_now bytes bytes_now n at since mark from o) (over : length d ≤ at) where
  pub finish_asked : length d ≤ document_limit → Ranged o × (at < 4294967296) × (n + MOST_EVENTS < 4294967296)
  finish_asked small = (g.ranged, omega (arith, g.inside), omega (arith, g.inside, g.few))

  whole : at ≡ length d
  whole = omega (arith, g.inside)

  pub end_refuses : {r : Refusal} {numbers' bytes' : List ℕ} → FinishedRefused facts at n o numbers_now bytes_now r numbers' bytes' → {f : Fault} → f ≡ fault_at r at
      → (es : List Element) → Indexed s es elements index → Tables s es rows places facts M → Lists c.name_length s es lists → EventsOf c s es d numbers numbers' bytes bytes' (Err f)
  end_refuses {r} t q es i u l =
      let came = g.any es i u l in
      rw q (reaches_end came.reaches whole (subst (λ (k : ℕ). end_document s es (decided s es) k came.state ≡ refused (number_of r) at) whole (t.ends s es u.raised u.facts_say M begun came.state came.stands)))

  pub end_counts : {r : Outcome} {numbers' bytes' : List ℕ} → FinishedGot facts at n o numbers_now bytes_now r numbers' bytes' → length d ≤ document_limit
      → (es : List Element) → Indexed s es elements index → Tables s es rows places facts M → Lists c.name_length s es lists → EventsOf c s es d numbers numbers' bytes bytes' (Ok r.events)
  end_counts t small es i u l =
      let came = g.any es i u l in
      let z = came.state in
      let b = t.brings in
      let With = with_attributes c.name_length s es d in
      let before = due c d z.events in
      let ends : end_document s es (decided s es) (length d) z ≡ got (z.events ++ b.events) =
      subst (λ (k : ℕ). end_document s es (decided s es) k z ≡ got (z.events ++ b.events)) whole (t.ends s es u.raised u.facts_say M begun z came.stands) in
      let all : With (records_settled c d (z.events ++ b.events)) ≡ With before ++ b.events =
      ap With (end_settles came.reaches b.events ends) ∙ with_append c.name_length s es d before b.events ∙ ap (λ (v : List Event). With before ++ v) (b.plain.plain c.name_length s es d) in
      let has = has_behind came.has b.puts b.counted in (
        With before ++ b.events,
        reaches_end came.reaches whole ends ∙ ap got all,
        has.counted,
        has.holds.numbers_hold,
        has.holds.bytes_hold,
        omega (arith, b.counted, t.few, g.few, g.inside),
      )

  -- Whatever the tables hold, there are so many events.
  pub end_counted : {r : Outcome} {numbers' bytes' : List ℕ} → FinishedGot facts at n o numbers_now bytes_now r numbers' bytes' → r.events ≤ MOST_EVENTS * (length d + 1)
  end_counted t = omega (arith, t.brings.counted, t.few, g.few, g.inside)

-- What stands where reading has come to is refused, whatever is open.
pub piece_refuses : {c : Settings} {s elements index rows places facts M lists d begun numbers numbers_now bytes bytes_now : List ℕ} {n at since mark from : ℕ} {o : OpenElements} {p : Result Found Fault} (marks : List ℕ)
    → Going c s elements index rows places facts M lists d begun numbers numbers_now bytes bytes_now n at since mark from o → at < length d
    → ((es : List Element) → Indexed s es elements index → Lists c.name_length s es lists → Finds c.name_length s es d at p marks) → {f : Fault} → p ≡ Err f
    → (es : List Element) → Indexed s es elements index → Tables s es rows places facts M → Lists c.name_length s es lists → document c s es (decided s es) d ≡ refused f.number f.at
piece_refuses {c} {s} {d = d} {at = at} {since = since} {mark = mark} marks g inside said {f} q es i t l =
    let came = g.any es i t l in
    refused_unread c s es d at (line_of since mark) came.state inside came.reaches f.number f.at (rw q at (said es i l))

-- A turn of the loop: the document has something at `at`, and this is what `next_at` ensures of it, the
-- attributes of a start tag being marked.
pub record Turn (c : Settings) (s elements index rows places facts M lists d begun numbers numbers_now bytes bytes_now : List ℕ) (n at since mark from : ℕ) (o : OpenElements) (p : Next) (marks : List ℕ) : Type 0 where
  pub going : Going c s elements index rows places facts M lists d begun numbers numbers_now bytes bytes_now n at since mark from o
  pub inside : at < length d
  pub onward : Ahead (length d) at p
  pub said : (es : List Element) → Indexed s es elements index → Tables s es rows places facts M → Lists c.name_length s es lists → (v : rules.Open) → Entered es M begun o.count o.element.0 o.place.0 v → (since ≡ 0 → is_fresh v ≡ true)
      → Follows c s es d (line_of since mark) v at p × MarksOf c s es d at p marks

module _ {c : Settings} {s elements index rows places facts M lists d begun numbers numbers_now bytes bytes_now : List ℕ} {n at since mark from : ℕ} {o : OpenElements} {p : Next} {marks : List ℕ}
    (turn : Turn c s elements index rows places facts M lists d begun numbers numbers_now bytes bytes_now n at since mark from o p marks) where
  says : (es : List Element) (i : Indexed s es elements index) (t : Tables s es rows places facts M) (l : Lists c.name_length s es lists) → Follows c s es d (line_of since mark) (turn.going.any es i t l).state.current at p × MarksOf c s es d at p marks
  says es i t l =
      let came = turn.going.any es i t l in
      turn.said es i t l came.state.current came.stands.current.entered (passes_fresh c s es (decided s es) d came.reaches.passes)

  follows : (es : List Element) (i : Indexed s es elements index) (t : Tables s es rows places facts M) (l : Lists c.name_length s es lists) → Follows c s es d (line_of since mark) (turn.going.any es i t l).state.current at p
  follows es i t l = (says es i t l).0

  -- Each moves on within the document.
  pub token_range : {x : ElementNo} {after : ℕ} → p ≡ next.Token x after → (at < after) × (after ≤ length d)
  token_range {x} {after} q = let (f, k, m) : (x.0 ≤ element_limit) × (at < after) × (after ≤ length d) = rw q at turn.onward in (k, m)

  pub end_range : {x : ElementNo} {after : ℕ} → p ≡ next.End x after → (at < after) × (after ≤ length d)
  end_range {x} {after} q = let (f, k, m) : (x.0 ≤ element_limit) × (at < after) × (after ≤ length d) = rw q at turn.onward in (k, m)

  pub passed_range : {after : ℕ} → p ≡ next.Passed after → (at < after) × (after ≤ length d)
  passed_range q = rw q at turn.onward

  -- What is ignored leaves the open elements as they were.
  pub going_passed : {after : ℕ} → p ≡ next.Passed after → {marked : ℕ} → marked ≡ mark_behind d at mark → Going c s elements index rows places facts M lists d begun numbers numbers_now bytes bytes_now n after since marked from o
  going_passed {after} q {marked} e =
      let (k, m) = passed_range q in
      record {
        inside = m;
        since_inside = omega (arith, turn.going.since_inside);
        from_inside = turn.going.from_inside;
        few = omega (arith, turn.going.few);
        ranged = turn.going.ranged;
        numbers_same = turn.going.numbers_same;
        bytes_same = turn.going.bytes_same;
        any = λ es i t l.
            let came = turn.going.any es i t l in
            record {
              state = came.state;
              reaches = subst (λ (k : ℕ). Reaches c s es d after (line_of since k) came.state) (sym e) (by_kind es came.state came.reaches (rw q at (follows es i t l)));
              latest = came.latest;
              stands = came.stands;
              has = came.has;
            };
      }
    where
      by_kind : (es : List Element) (z : State) → Reaches c s es d at (line_of since mark) z → Follows c s es d (line_of since mark) z.current at (next.Passed after) → Reaches c s es d after (line_of since (mark_behind d at mark)) z
      by_kind es z reach (skips e) = reaches_skipped reach turn.inside e
      by_kind es z reach (separates e n a) = rw a (reaches_blank reach turn.inside e n)

  module _ (small : length d ≤ document_limit) {x : ElementNo} {after : ℕ} where
    asked : (x.0 ≤ element_limit) × (at < after) × (after ≤ length d) → (x.0 ≤ element_limit) × (at ≤ after) × (after < 4294967296) × (n + MOST_EVENTS < 4294967296)
    asked (f, k, m) = (f, omega arith, omega arith, omega (arith, turn.going.few))

    pub token_asked : p ≡ next.Token x after → Ranged o × (x.0 ≤ element_limit) × (at ≤ after) × (after < 4294967296) × (n + MOST_EVENTS < 4294967296)
    token_asked q = let (a, b, c, e) = asked (rw q at turn.onward) in (turn.going.ranged, a, b, c, e)

    pub end_asked : p ≡ next.End x after → Ranged o × (at ≤ after) × (after < 4294967296) × (x.0 ≤ element_limit) × (n + MOST_EVENTS < 4294967296)
    end_asked q = let (a, b, c, e) = asked (rw q at turn.onward) in (turn.going.ranged, b, c, a, e)

  module _ {x : ElementNo} {after : ℕ} where
    -- A start tag or a run of data, shown to `shown`.
    module _ {shown : ℕ} (q : p ≡ next.Token x after) (to : shown ≡ shown_end c.edition d after) where
      to_settle : (es : List Element) (i : Indexed s es elements index) (u : Tables s es rows places facts M) (l : Lists c.name_length s es lists) → ToSettle c s es d (line_of since mark) (turn.going.any es i u l).state.current at x.0 after
      to_settle es i u l = rw q at (follows es i u l)

      declared : (es : List Element) → Indexed s es elements index → Tables s es rows places facts M → Lists c.name_length s es lists → x.0 ≤ length es
      declared es i u l = settles_declared c s es d (line_of since mark) (turn.going.any es i u l).state.current at x.0 after (to_settle es i u l)

      -- A tag is shown whole.
      tag_shown : (es : List Element) (v : rules.Open) → ToSettle c s es d (line_of since mark) v at x.0 after → 1 ≤ x.0 → after ≡ shown
      tag_shown es v (runs z f) some = absurd (omega arith)
      tag_shown es v (starts k f) some = sym (to ∙ shown_tag c.edition d after (omega (arith, token_range q)) (start_closes c s es d at (line_of since mark) v f.there turn.inside))

      pub token_refuses : {k : ℕ} → RefusesToken rows places facts M x.0 at shown o begun k → {f : Fault} → f ≡ record { number = k; at = at }
          → (es : List Element) → Indexed s es elements index → Tables s es rows places facts M → Lists c.name_length s es lists → document c s es (decided s es) d ≡ refused f.number f.at
      token_refuses refuses e es i u l =
          let came = turn.going.any es i u l in
          let z = came.state in
          let it = to_settle es i u l in
          rw e (token_refused c s es d M at since mark z turn.inside came.reaches x.0 after u.accepted it (refuses s es u z came.stands (declared es i u l) after (tag_shown es z.current it)))

      -- It is not refused.
      module _ {m : ℕ} {ends : List Event} {r : Outcome} {begun' numbers₂ bytes₂ numbers' bytes' : List ℕ} (t : Settles rows places facts M lists marks x.0 at shown o begun ends m numbers₂ bytes₂ r begun' numbers' bytes') where
        settled : (es : List Element) (i : Indexed s es elements index) (u : Tables s es rows places facts M) (l : Lists c.name_length s es lists)
            → Turned c s es d M begun' at after mark at ((((turn.going.any es i u l).state.events ++ ends) ++ t.starts) ++ written_of x.0 t.opens t.taken at after) (Ok r)
        settled es i u l =
            let came = turn.going.any es i u l in
            let z = came.state in
            let it = to_settle es i u l in
            turned_token c s es d M at since mark z turn.inside came.reaches x.0 after u.accepted (token_range q).0 it r ((z.events ++ ends) ++ t.starts) t.opens t.taken (t.settles s es u z came.stands (declared es i u l) after (tag_shown es z.current it))

        -- The tag's attributes are marked.
        tag_gives : (es : List Element) → Indexed s es elements index → Tables s es rows places facts M → Lists c.name_length s es lists → (v : rules.Open) → ToSettle c s es d (line_of since mark) v at x.0 after → 1 ≤ x.0 → Gives c.name_length s es d x.0 at marks
        tag_gives es i u l v (runs z f) some = absurd (omega arith)
        tag_gives es i u l v (starts k f) some =
            let there = start_text c s es d at (line_of since mark) v f.there in
            let marked : MarksOf c s es d at (next.Token x after) marks = rw q at (says es i u l).1 in
            record { tag = _; there = piece_start_tag c.name_length d at there; marked = marked some _ there }

        added : (es : List Element) → Indexed s es elements index → Tables s es rows places facts M → Lists c.name_length s es lists → t.written ≡ with_attributes c.name_length s es d (t.starts ++ shown_of x.0 t.opens t.taken at shown)
        added es i u l =
            let came = turn.going.any es i u l in
            t.adds s es u came.state came.stands (declared es i u l) c.name_length d l (tag_gives es i u l came.state.current (to_settle es i u l))

    -- Its ends were inferred first, and a run that was held was freed.
    module _ {shown m : ℕ} {r : Outcome} {begun' numbers₁ bytes₁ numbers₂ bytes₂ numbers' bytes' : List ℕ} {f : Stop} (q : p ≡ next.Token x after) (to : shown ≡ shown_end c.edition d after)
        (stops : Stops rows places facts M begun x.0 at n o numbers_now bytes_now f numbers₁ bytes₁) (frees : Frees (is_held c.edition d since) from since n f.events numbers₁ bytes₁ m numbers₂ bytes₂)
        (t : Settles rows places facts M lists marks x.0 at shown o begun stops.turns.events m numbers₂ bytes₂ r begun' numbers' bytes') where
      abbrev ends_first : List Event
      ends_first = stops.turns.events

      token_due : (es : List Element) (i : Indexed s es elements index) (u : Tables s es rows places facts M) (l : Lists c.name_length s es lists)
          → (y : State) → y.events ≡ (((turn.going.any es i u l).state.events ++ ends_first) ++ t.starts) ++ written_of x.0 t.opens t.taken at after
          → Has numbers bytes r.events numbers' bytes' (with_attributes c.name_length s es d (due c d y.events))
      token_due es i u l y is =
          let came = turn.going.any es i u l in
          let With = with_attributes c.name_length s es d in
          let ev = came.state.events ++ ends_first in
          let own = t.starts ++ shown_of x.0 t.opens t.taken at shown in
          let first = freed c s es d came.latest ends_first came.has (ends_are stops.turns.are) stops.turns.plain stops.turns.puts stops.turns.counted
          (λ h e less before b. record { counted = (frees.puts h e).counted less before b.counted; holds = (frees.puts h e).whole less numbers bytes before b.counted b.holds }) frees.stays in
          let all : With (due c d y.events) ≡ With (records_settled c d ev) ++ t.written =
          ap (λ (v : List Event). With (due c d v)) is
          ∙ ap With (due_token c d ev (starts_are t.started) at after shown (token_range q).0 (λ h. to ∙ shown_short c.edition d after h) (λ h. to ∙ shown_whole c.edition d after h) x.0 t.opens t.taken (tag_shown q to es came.state.current (to_settle q to es i u l)))
          ∙ with_append c.name_length s es d (records_settled c d ev) own ∙ ap (λ (v : List Event). With (records_settled c d ev) ++ v) (sym (added q to t es i u l)) in
          subst (Has numbers bytes r.events numbers' bytes') (sym all) (has_behind first t.puts t.counted)

      pub going_token : Going c s elements index rows places facts M lists d begun' numbers numbers' bytes bytes' r.events after after mark at r.open
      going_token =
          record {
            inside = (token_range q).1;
            since_inside = omega arith;
            from_inside = omega (arith, token_range q);
            few = omega (arith, turn.going.few, token_range q, t.counted, t.few, frees.few TAGLVL (omega (arith, stops.turns.counted, stops.turns.deep, turn.going.ranged.few)) (omega arith));
            ranged = t.ranged;
            numbers_same = t.puts.numbers_kept ∙ frees.numbers_kept ∙ stops.turns.puts.numbers_kept ∙ turn.going.numbers_same;
            bytes_same = t.puts.bytes_kept ∙ frees.bytes_kept ∙ stops.turns.puts.bytes_kept ∙ turn.going.bytes_same;
            any = λ es i u l.
                let (y, there, reach, last) = settled q to t es i u l in
                record { state = y; reaches = reach; latest = last; stands = there.0; has = token_due es i u l y there.1 };
          }

    -- An end tag.
    module _ (q : p ≡ next.End x after) where
      pub end_tag_refuses : {r : Refusal} {numbers' bytes' : List ℕ} → TaggedRefused facts x.0 at after n o numbers_now bytes_now r numbers' bytes' → {f : Fault} → f ≡ fault_at r at
          → (es : List Element) → Indexed s es elements index → Tables s es rows places facts M → Lists c.name_length s es lists → document c s es (decided s es) d ≡ refused f.number f.at
      end_tag_refuses t e es i u l =
          let came = turn.going.any es i u l in
          rw e (end_refused c s es d M at since mark came.state turn.inside came.reaches x.0 after (rw q at (follows es i u l)) (t.closes s es u.raised u.facts_say M begun came.state came.stands))

      module _ {r : Outcome} {numbers' bytes' : List ℕ} (t : TaggedGot facts x.0 at after n o numbers_now bytes_now r numbers' bytes') where
        closes : (es : List Element) (i : Indexed s es elements index) (u : Tables s es rows places facts M) (l : Lists c.name_length s es lists)
            → Got (StandsWith es M begun r.open ((turn.going.any es i u l).state.events ++ t.brings.events)) (end_element s es (decided s es) x.0 at after (turn.going.any es i u l).state)
        closes es i u l = let came = turn.going.any es i u l in t.closes s es u.raised u.facts_say M begun came.state came.stands

        ended : (es : List Element) (i : Indexed s es elements index) (u : Tables s es rows places facts M) (l : Lists c.name_length s es lists) → Turned c s es d M begun at after mark from ((turn.going.any es i u l).state.events ++ t.brings.events) (Ok r)
        ended es i u l =
            let came = turn.going.any es i u l in
            turned_end c s es d M at since mark came.state turn.inside came.reaches x.0 after (rw q at (follows es i u l)) r from (closes es i u l)

        -- What was due stands, and its ends behind.
        end_due : (es : List Element) (i : Indexed s es elements index) (u : Tables s es rows places facts M) (l : Lists c.name_length s es lists)
            → (y : State) → y.events ≡ (turn.going.any es i u l).state.events ++ t.brings.events → Has numbers bytes r.events numbers' bytes' (with_attributes c.name_length s es d (due c d y.events))
        end_due es i u l y is =
            let came = turn.going.any es i u l in
            let z = came.state in
            let With = with_attributes c.name_length s es d in
            let b = t.brings in
            let (w, e, there) = closes es i u l in
            let all : With (due c d y.events) ≡ With (due c d z.events) ++ b.events =
            ap (λ (v : List Event). With (due c d v)) (is ∙ sym there.1) ∙ ap With (due_end_tag s es (decided s es) c d x.0 at after z w b.events e there.1) ∙ with_append c.name_length s es d (due c d z.events) b.events
            ∙ ap (λ (v : List Event). With (due c d z.events) ++ v) (b.plain.plain c.name_length s es d) in
            subst (Has numbers bytes r.events numbers' bytes') (sym all) (has_behind came.has b.puts b.counted)

        pub going_end : Going c s elements index rows places facts M lists d begun numbers numbers' bytes bytes' r.events after after mark from r.open
        going_end =
            record {
              inside = (end_range q).1;
              since_inside = omega arith;
              from_inside = omega (arith, end_range q, turn.going.from_inside, turn.going.since_inside);
              few = omega (arith, turn.going.few, end_range q, t.brings.counted, t.few);
              ranged = t.brings.ranged;
              numbers_same = t.brings.puts.numbers_kept ∙ turn.going.numbers_same;
              bytes_same = t.brings.puts.bytes_kept ∙ turn.going.bytes_same;
              any = λ es i u l.
                  let (y, there, reach, last) = ended es i u l in
                  record { state = y; reaches = reach; latest = last; stands = there.0; has = end_due es i u l y there.1 };
            }
