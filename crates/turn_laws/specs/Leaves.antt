-- What settling leaves: the token taken as a place as which it fits, and no event on which data goes on that was not there before.
use Rattle.std.specs.Prelude.{ℕ, ◌≤◌, ◌≡◌, refl, false, List, [], ◌∷◌}
use Rattle.std.proofs.Common.{ap}
use Rattle.rules.specs.TypeFile.{Element}
use Rattle.rules.specs.Decisions.{Token, Decisions, Means}
use Rattle.rules.specs.Events.{Event}
use Rattle.rules.specs.Settling.{Open, State, take_place, enter, fitting, settle, start_element, end_element}
use Rattle.rules.specs.Settings.{Settings}
use Rattle.rules.specs.Records.{Line}
use Rattle.rules_laws.specs.Holds.{Holds, got_so}
use Rattle.rules_laws.specs.Both.{first}
use Rattle.document_laws.specs.Moves.{parent_is, At, Closed, Moves, Itself, keeps_ends, answers_itself, any_moves, with_datum, settle_both, start_element_both, end_element_both, settle_piece_both}
use Rattle.document_laws.specs.Same.{Begun, AllBegun, begun_moves, Passes, begins, goes}
use Rattle.turn_laws.specs.RunAtOnce.{joins, took}
use Rattle.turn_laws.specs.Joins.{joins_other}

-- The token t was settled, where `before` were the events: it is the last that the current element took, where the places taken began a walk, and no data
-- goes on an event that is new.
pub record Settled (s : List ℕ) (es : List Element) (D : Decisions) (t : Token) (before : List Event) (x : State) : Type 0 where
  pub place : Open
  pub begun : Begun es place
  pub fits : 1 ≤ fitting s es D place t
  pub current : x.current ≡ took place (fitting s es D place t)
  pub parted : (j : ℕ) → joins j before ≡ false → joins j x.events ≡ false

-- Data goes on no event.
abbrev pub Parted : State → Type 0
Parted z = (j : ℕ) → joins j z.events ≡ false

-- Data goes on no event that is new.
abbrev PartedFrom : List Event → State → Type 0
PartedFrom before z = (j : ℕ) → joins j before ≡ false → joins j z.events ≡ false

closed_parted : (x : State) → Closed x → Parted x
closed_parted x c j = rw c.last (joins_other j c.before c.event c.other)

module _ (s : List ℕ) (es : List Element) (D : Decisions) where
  -- What settling keeps: the places taken begin walks, and no data goes on an event that is new.
  abbrev Kept : List Event → State → Type 0
  Kept before z = AllBegun es z × PartedFrom before z

  kept_moves : Means s es D → (before : List Event) → Moves s es D D (Itself (Kept before))
  kept_moves means before =
      let moves = begun_moves s es D D means means in
      record {
        ends =
            keeps_ends
            (record {
              alike = λ {z} h. answers_itself s es D z.current;
              note = λ {z} h e k. ((moves.ends.note (refl, h.0) e k).1, λ j i. joins_other j z.events e k);
              leave = λ {z} h. ((moves.ends.leave (refl, h.0)).1, parent_is (PartedFrom before) z h.1 (λ u around e. h.1));
            });
        taking = λ {z} q p c. (ap (take_place p) q.0, ((moves.taking (q.0, q.1.0) p c).1, q.1.1));
        enter = λ q k m. (ap (enter k) q.0, ((moves.enter (q.0, q.1.0) k m).1, q.1.1));
      }

  pub settle_leaves : Means s es D → (t : Token) (at : ℕ) (z : State) → AllBegun es z → Holds (At at) (Settled s es D t z.events) (settle s es D t at z)
  settle_leaves means t at z begun =
      first (settle_both (kept_moves means z.events) t at (refl, (begun, λ j h. h)))
      (λ x w a.
      record {
        place = a.here.current;
        begun = a.keeps.1.0.current;
        fits = a.fits;
        current = ap (λ (y : State). y.current) a.first;
        parted = λ j h. rw a.first (a.keeps.1.1 j h);
      })

  -- The last event is no data, so a run that follows is a new one.

  pub start_element_parted : (k at after : ℕ) (z : State) → Holds (At at) Parted (start_element s es D k at after z)
  start_element_parted k at after z = first (start_element_both (any_moves s es D) k at after (refl, tt)) (λ x w r. closed_parted x r.2)

  pub end_element_parted : (k at after : ℕ) (z : State) → Holds (At at) Parted (end_element s es D k at after z)
  end_element_parted k at after z = first (end_element_both (any_moves s es D).ends k at after (refl, tt)) (λ x w r. closed_parted x r.2)

-- The outermost of the open elements is the document itself.

abbrev pub bottom : Open → List Open → ℕ
bottom o [] = o.element
bottom o (u ∷ around) = bottom u around

abbrev Bottomed : State → Type 0
Bottomed z = bottom z.current z.around ≡ 0

bottom_moves : (s : List ℕ) (es : List Element) (D : Decisions) → Moves s es D D (Itself Bottomed)
bottom_moves s es D =
    record {
      ends =
          keeps_ends
          (record {
            alike = λ {z} h. answers_itself s es D z.current;
            note = λ h e k. h;
            leave = λ {z} h. parent_is Bottomed z h (λ u around e. rw e at h);
          });
      taking = λ {z} q p c. (ap (take_place p) q.0, took_bottom z.current p z.around q.1);
      enter = λ q k m. (ap (enter k) q.0, q.1);
    }
  where
    took_bottom : (o : Open) (p : ℕ) (around : List Open) → bottom o around ≡ 0 → bottom (took o p) around ≡ 0
    took_bottom o p [] h = h
    took_bottom o p (u ∷ around) h = h

pub passes_bottom : {c : Settings} (s : List ℕ) (es : List Element) (D : Decisions) (d : List ℕ) {at : ℕ} {l : Line} {z : State} → Passes c s es D d at l z → bottom z.current z.around ≡ 0
passes_bottom s es D d begins = refl
passes_bottom s es D d (goes {at} {l} {z} {p} r h i e f) =
    got_so (first (settle_piece_both (bottom_moves s es D) (λ at z y q. (ap (with_datum at) q.0, q.1)) d p at (refl, passes_bottom s es D d h)) (λ r w a. a.keeps.1)) f
