-- In a document read in edition 2 a place is in the data events as often as the three cases keep it in the contents of the elements: the invariant, piece by
-- piece.
use Rattle.std.specs.Prelude.{ℕ, ◌+◌, ◌≡◌, refl, Bool, true, false, ◌⊎◌, List, [], ◌∷◌, ◌++◌}
use Rattle.std.proofs.Common.{arith, sym, ◌∙◌, ap, subst, inl, inr, eq-eqb, ne_eqb}
use Rattle.rules.specs.Settings.{Settings, is_second}
use Rattle.rules.specs.Bytes.{byte_at, RE}
use Rattle.rules.specs.TypeFile.{Element}
use Rattle.rules.specs.Decisions.{Decisions}
use Rattle.rules.specs.Events.{Event, with_data}
use Rattle.rules.specs.Settling.{State}
use Rattle.rules.specs.Records.{Line, cut_before_ends}
use Rattle.rules.specs.RecordEnds.{Thing, markup, boundary, record_end, datum, subelement, Contents, no_contents, add, over_in, Fills}
use Rattle.record_laws.specs.Marks.{is_once}
use Rattle.record_laws.specs.Tracks.{kept, Held, nothing, one, due, Track, next, read_in, read_snoc, read_end, element_data}
use Rattle.record_laws.specs.Counts.{count, count_append, data_count, no_data_lem, plain_more, end_more, data_more, held_in, held_other, held_data}
use Rattle.record_laws.specs.Moves.{Step, opens, passes, closes, Moves, moves_keep, comes_moves}
use Rattle.record_laws.specs.Turns.{Turn, tags, markups, tens, dropped, ignored, takes, bytes, fills_keep}
use Rattle.record_laws.specs.AtOnce.{Lined, turn_lined, lined_first, lined_test}

-- How often p is data in an element that has not ended, if something follows that shows a held byte to be data.
abbrev pub line_count : ℕ → Track → ℕ
line_count p l = count p l.written + count p (due l.held)

abbrev pub so_far : ℕ → List Thing → ℕ
so_far p c = line_count p (read_in c)

abbrev pub open_count : ℕ → List (List Thing) → ℕ
open_count p [] = 0
open_count p (c ∷ cs) = so_far p c + open_count p cs

-- How often p is data by the three cases in elements that have ended.
abbrev pub ended_count : ℕ → List (List Thing) → ℕ
ended_count p [] = 0
ended_count p (c ∷ cs) = count p (kept [] c) + ended_count p cs

abbrev pub total : ℕ → Contents → ℕ
total p k = so_far p k.current + open_count p k.around + ended_count p k.ended

-- Nothing is held in these.
abbrev AllQuiet : List (List Thing) → Type 0
AllQuiet [] = Unit {0}
AllQuiet (c ∷ cs) = ((read_in c).held ≡ nothing) × AllQuiet cs

-- The events have as data what came, and the run that ends them ends in the byte that is held in the current element; none is held in those around it.
pub record Counted (d : List ℕ) (ev : List Event) (k : Contents) : Type 0 where
  pub total : (p : ℕ) → data_count p (cut_before_ends d ev) ≡ total p k
  pub held : held_in d ev ≡ (read_in k.current).held
  pub around : AllQuiet k.around

-- Contents

snoc_count : (p : ℕ) (c : List Thing) (t : Thing) → so_far p (c ++ t ∷ []) ≡ line_count p (next (read_in c) t)
snoc_count p c t = ap (line_count p) (read_snoc c t)

snoc_held : (c : List Thing) (t : Thing) → (read_in (c ++ t ∷ [])).held ≡ (next (read_in c) t).held
snoc_held c t = ap (λ (l : Track). l.held) (read_snoc c t)

sub_count : (p : ℕ) (c : List Thing) → so_far p (c ++ subelement ∷ []) ≡ so_far p c
sub_count p c = omega (arith, snoc_count p c subelement, count_append p (read_in c).written (due (read_in c).held))

kept_count : (p : ℕ) (c : List Thing) → count p (read_in c).written ≡ count p (kept [] c)
kept_count p c = ap (count p) (element_data c)

over_total : (p : ℕ) (around : List (List Thing)) (c : List Thing) (ended : List (List Thing)) → total p (over_in around c ended) ≡ count p (kept [] c) + open_count p around + ended_count p ended
over_total p [] c ended = omega arith
over_total p (u ∷ around) c ended = omega arith

over_quiet : (around : List (List Thing)) (c : List Thing) (ended : List (List Thing)) → AllQuiet around → ((read_in (over_in around c ended).current).held ≡ nothing) × AllQuiet (over_in around c ended).around
over_quiet [] c ended h = (refl, tt)
over_quiet (u ∷ around) c ended h = h

-- Steps

step_counted : (d : List ℕ) (z y : State) (k j : Contents) → Step z k y j → Counted d z.events k → Counted d y.events j
step_counted d z y k j (opens p n e b) w =
    record {
      total = λ q. omega (arith, plain_more q d z.events e b.no_end, no_data_lem q e b.no_data, w.total q, sub_count q k.current);
      held = held_other d z.events e b.no_data;
      around = (snoc_held k.current subelement, w.around);
    }
step_counted d z y k j (passes p e f b v) w =
    record {
      total = λ q. omega (arith, plain_more q d (z.events ++ e ∷ []) f v.no_end, plain_more q d z.events e b.no_end, no_data_lem q f v.no_data, no_data_lem q e b.no_data, w.total q, sub_count q k.current);
      held = held_other d (z.events ++ e ∷ []) f v.no_data ∙ sym (snoc_held k.current subelement);
      around = w.around;
    }
step_counted d z y k j (closes u us e q c) w =
    let v = over_quiet k.around k.current k.ended w.around in
    record {
      total = λ p. omega (
        arith,
        end_more p d z.events e c.an_end,
        no_data_lem p e c.no_data,
        w.total p,
        ap (λ (h : Held). count p (due h)) w.held,
        over_total p k.around k.current k.ended,
        kept_count p k.current,
      );
      held = held_other d z.events e c.no_data ∙ sym v.0;
      around = v.1;
    }

pub moves_counted : {d : List ℕ} {z y : State} {k j : Contents} → Moves z k y j → Counted d z.events k → Counted d y.events j
moves_counted {d} m w = moves_keep (λ (x : State) (i : Contents). Counted d x.events i) (step_counted d) m w

-- Things

quiet_counted : (d : List ℕ) (ev : List Event) (k : Contents) (t : Thing) → ((l : Track) → ((next l t).held ≡ l.held) × ((next l t).written ≡ l.written)) → Counted d ev k → Counted d ev (add t k)
quiet_counted d ev k t h w =
    let (e, f) = h (read_in k.current) in
    record {
      total = λ p. omega (arith, w.total p, snoc_count p k.current t, ap (λ (x : Held). count p (due x)) e, ap (count p) f);
      held = w.held ∙ sym (snoc_held k.current t ∙ e);
      around = w.around;
    }

boundary_counted : (d : List ℕ) (ev : List Event) (k : Contents) → Counted d ev k → Counted d ev (add boundary k)
boundary_counted d ev k w = quiet_counted d ev k boundary (λ l. (refl, refl)) w

-- A byte 13 that is ignored at once, and one that is not.
dropped_counted : (d : List ℕ) (ev : List Event) (k : Contents) (at : ℕ) → is_once k.current ≡ true → Counted d ev k → Counted d ev (add (record_end at) k)
dropped_counted d ev k at o w =
    let s = read_end k.current at true o in
    record {
      total = λ p. omega (arith, w.total p, ap (line_count p) s);
      held = w.held ∙ sym (ap (λ (l : Track). l.held) s);
      around = w.around;
    }

kept_counted : (d : List ℕ) (ev : List Event) (k : Contents) (at : ℕ) → byte_at d at ≡ RE → is_once k.current ≡ false → Counted d ev k → Counted d (with_data at ev) (add (record_end at) k)
kept_counted d ev k at b o w =
    let l = read_in k.current in
    let s = read_end k.current at false o in
    record {
      total = λ p. omega (arith, w.total p, data_more p d at ev, ap (line_count p) s, count_append p l.written (due l.held));
      held = held_data d at ev ∙ ap (λ (x : Bool). elim x as (λ _. Held) [ true ↦ one at | false ↦ nothing ]) (eq-eqb (byte_at d at) RE b) ∙ sym (ap (λ (x : Track). x.held) s);
      around = w.around;
    }

-- A data byte is one thing more.
datum_counted : (d : List ℕ) (ev : List Event) (k : Contents) (at : ℕ) → ¬ (byte_at d at ≡ RE) → Counted d ev k → Counted d (with_data at ev) (add (datum at) k)
datum_counted d ev k at b w =
    let l = read_in k.current in
    record {
      total = λ p. omega (
        arith,
        w.total p,
        data_more p d at ev,
        snoc_count p k.current (datum at),
        count_append p l.written (due l.held ++ at ∷ []),
        count_append p (due l.held) (at ∷ []),
      );
      held = held_data d at ev ∙ ap (λ (x : Bool). elim x as (λ _. Held) [ true ↦ one at | false ↦ nothing ]) (ne_eqb (byte_at d at) RE b) ∙ sym (snoc_held k.current (datum at));
      around = w.around;
    }

-- Reading

module _ (c : Settings) (s : List ℕ) (es : List Element) (D : Decisions) (d : List ℕ) (second : is_second c ≡ true) where
  turn_counted : (at i : ℕ) (l m : Line) (z y : State) (k j : Contents) → Turn c s es D d at l z k i m y j → Lined s es D d at l z k → Counted d z.events k → Counted d y.events j
  turn_counted at i l m z y k j (tags after t a h b) v w = moves_counted (comes_moves t) w
  turn_counted at i l m z y k j (markups after a h) v w = quiet_counted d z.events k markup (λ x. (refl, refl)) w
  turn_counted at i l m z y k j (tens b) v w = boundary_counted d z.events k w
  turn_counted at i l m z y k j (dropped b f o) v w = dropped_counted d z.events k at (sym (lined_test c s es D d v f) ∙ o) w
  turn_counted at i l m z y k j (ignored f n q x r) v w = stays r
    where
      stays : ◌⊎◌ (◌≡◌ {A = Contents} x k) (◌≡◌ {A = Contents} x (add boundary k)) → Counted d z.events x
      stays (inl e) = subst (λ (u : Contents). Counted d z.events u) (sym e) w
      stays (inr e) = subst (λ (u : Contents). Counted d z.events u) (sym e) (boundary_counted d z.events k w)
  turn_counted at i l m z y k j (takes b f o) v w = kept_counted d z.events k at b (sym (lined_test c s es D d v f) ∙ o second) w
  turn_counted at i l m z y k j (bytes b {w = u} t) v w =
      datum_counted d u.events t.contents at b (subst (λ (x : State). Counted d x.events t.contents) (sym t.taken) (moves_counted t.moves w))

  counted_first : Counted d [] no_contents
  unfolding cut_before_ends
  counted_first = record { total = λ p. refl; held = refl; around = tt }

  pub fills_counted : {at : ℕ} {l : Line} {z : State} {k : Contents} → Fills c s es D d at l z k → Counted d z.events k
  fills_counted h =
      (fills_keep (λ at l z k. Lined s es D d at l z k × Counted d z.events k) (lined_first c s es D d, counted_first)
      (λ at i l m z y k j t (v, w). (turn_lined c s es D d at i l m z y k j t v, turn_counted at i l m z y k j t v w)) h).1
