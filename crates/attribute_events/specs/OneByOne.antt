-- Laws of the attribute events: one attribute's, those of one attribute more, and all of them.
use Rattle.std.specs.Prelude.{ℕ, zero, suc, ◌+◌, ◌*◌, ◌-◌, ◌≤◌, ◌<◌, ◌≡◌, List, [], ◌∷◌, ◌++◌, length, get_or, take, replicate}
use Rattle.std.proofs.Math.Path.{refl}
use Rattle.std.proofs.Common.{sym, ◌∙◌, ap, append_assoc, append-nil, add-one, arith, length-append, take_all, eq-eqb, ne_eqb}
use Rattle.std.proofs.Math.Decide.{ℕ_discrete}
use Rattle.std.proofs.lemmas.List.{get_or-replicate}
use Rattle.std.proofs.Math.ListN.{get_or-eq_default}
use Rattle.rules.specs.Bytes.{ATTCNT}
use Rattle.rules.specs.Attributes.{Default, Attribute, attribute_at}
use Rattle.rules.specs.Document.{Written}
use Rattle.rules.specs.Events.{Event}
use Rattle.rules.specs.Given.{given_for, attribute_event, attribute_events}
use Rattle.layout.specs.Sizes.{ATTRIBUTE, LIST, MARKS}
use Rattle.attribute_defaults.specs.DefaultOf.{default_is}
use Rattle.event_buffer.specs.EventByEvent.{puts_none, puts_then}
use Rattle.list_table.specs.declared.Row.{Row}
use Rattle.list_table.specs.Lists.{row_in, ListAt}
use Rattle.attribute_marks.specs.Marks.{MarkedAs}
use Rattle.attribute_events.specs.PutBefore.{PutsFew, PutsWritten, PutsDefaults, MarkedWith, PutsOne, PutsFirst}

-- The event of one attribute, with these marks

module _ (n at size : ℕ) where
  event_unwritten : (f : Default) (ws : List Written) → at ≡ 0 → MarkedWith at size ws → attribute_event n f ws ≡ attribute_event n f []
  event_unwritten f [] z m = refl
  event_unwritten f (w ∷ ws) z m = absurd (omega (arith, m.0, z))

event_none : (n x l : ℕ) → x < 2 → attribute_event n (default_is x l) [] ≡ []
event_none n x l h = by_zero (ℕ_discrete x 0)
  where
    by_zero : Dec (x ≡ 0) → attribute_event n (default_is x l) [] ≡ []
    by_zero (yes z) = rw (default_is, eq-eqb x 0 z)
    by_zero (no z) = let one : x ≡ 1 = omega arith in rw (default_is, ne_eqb x 0 z, eq-eqb x 1 one)

-- One event, or none: the attribute k of the element e has the row r.
module _ (lists : List ℕ) (e k at size n : ℕ) (numbers bytes : List ℕ) (some : 1 ≤ e) where
  module _ (z : at ≡ 0) (row : Row) (o : row ≡ row_in lists (LIST * (e - 1) + 1 + ATTRIBUTE * k)) where
    -- What the rules have for it is what its default brings.
    defaulted : (long : ℕ) (s : List ℕ) (xs : List Attribute) (ws : List Written) → ListAt long s lists (LIST * (e - 1)) xs → k < length xs → MarkedWith at size ws
        → attribute_event (k + 1) (default_is row.default row.width) [] ≡ attribute_event (k + 1) (attribute_at xs k).default ws
    defaulted long s xs ws l i m =
        ap (λ (x : Row). attribute_event (k + 1) (default_is x.default x.width) []) o ∙ ap (λ f. attribute_event (k + 1) f []) (l.rows k i).default
        ∙ sym (event_unwritten (k + 1) at size (attribute_at xs k).default ws z m)

    pub one_none : row.default < 2 → PutsOne lists e k at size n numbers bytes n numbers bytes
    one_none h =
        record {
          events = [];
          few = record { puts = puts_none numbers bytes n; counted = omega arith; few = omega arith; nothing = λ y. refl };
          are = λ long s xs ws l i m. sym (event_none (k + 1) row.default row.width h) ∙ defaulted long s xs ws l i m;
        }

-- One attribute after the other

-- Data has none.
pub holds_some : (e count : ℕ) {k : ℕ} → (e ≡ 0 → count ≡ 0) → k < count → 1 ≤ e
holds_some e count none h = by_zero (ℕ_discrete e 0)
  where
    by_zero : Dec (e ≡ 0) → 1 ≤ e
    by_zero (yes z) = absurd (omega (arith, none z, h))
    by_zero (no z) = omega arith

marked_with : (marks : List ℕ) (k : ℕ) (ws : List Written) → MarkedAs marks k ws → MarkedWith (get_or marks (2 * k) 0) (get_or marks (2 * k + 1) 0) ws
marked_with marks k [] m = m
marked_with marks k (w ∷ ws) m = m

-- The events of the first attributes of a list, and that of the next, whose number is m.
events_next : (n : ℕ) (s : List ℕ) (xs : List Attribute) (d : List ℕ) (ws : List Written) (k m : ℕ) → m ≡ n + k → k < length xs
    → attribute_events n s (take (suc k) xs) d ws ≡ attribute_events n s (take k xs) d ws ++ attribute_event m (attribute_at xs k).default (given_for s (attribute_at xs k) d ws)
unfolding attribute_events attribute_at
events_next n s [] d ws k m e h = absurd (omega (arith, h))
events_next n s (a ∷ xs) d ws zero m e h = let q : n ≡ m = omega (arith, e) in append-nil _ ∙ ap (λ j. attribute_event j a.default (given_for s a d ws)) q
events_next n s (a ∷ xs) d ws (suc k) m e h =
    ap (λ (ev : List Event). attribute_event n a.default (given_for s a d ws) ++ ev) (events_next (n + 1) s xs d ws k m (omega (arith, e)) (omega (arith, h)))
    ∙ sym (append_assoc (attribute_event n a.default (given_for s a d ws)) _ _)

module _ (lists marks : List ℕ) (e n : ℕ) (numbers bytes : List ℕ) where
  pub first_none : PutsFirst lists marks e 0 n numbers bytes n numbers bytes
  unfolding attribute_events
  first_none =
      record {
        events = [];
        few = record { puts = puts_none numbers bytes n; counted = omega arith; few = omega arith; nothing = λ z. refl };
        are = λ long s d xs ws h l m i. refl;
      }

  pub first_more : (k : ℕ) {m r at size : ℕ} {numbers' bytes' numbers'' bytes'' : List ℕ} → 1 ≤ e → at ≡ get_or marks (2 * k) 0 → size ≡ get_or marks (2 * k + 1) 0 → PutsFirst lists marks e k n numbers bytes m numbers' bytes'
      → PutsOne lists e k at size m numbers' bytes' r numbers'' bytes'' → PutsFirst lists marks e (k + 1) n numbers bytes r numbers'' bytes''
  first_more k some a b p q =
      let sizes = length-append p.events q.events in
      record {
        events = p.events ++ q.events;
        few =
            record {
              puts = puts_then p.few.puts p.few.counted q.few.puts;
              counted = omega (arith, p.few.counted, q.few.counted);
              few = omega (arith, p.few.few, q.few.few);
              nothing = λ z. absurd (omega arith);
            };
        are = λ long s d xs ws h l m i.
            let given = marked_with marks k (given_for s (attribute_at xs k) d ws) (m k (omega arith)) in
            let first = p.are long s d xs ws h l m (omega arith) in
            let next = q.are long s xs (given_for s (attribute_at xs k) d ws) l (omega arith) (rw (a, b) given) in
            ap (λ (ev : List Event). ev ++ q.events) first ∙ ap (λ (ev : List Event). attribute_events 1 s (take k xs) d ws ++ ev) next
            ∙ sym (events_next 1 s xs d ws k (k + 1) (omega arith) (omega arith)) ∙ ap (λ j. attribute_events 1 s (take j xs) d ws) (sym (add-one k));
      }

  -- All of them, of which there are so many.
  pub first_all : (k count : ℕ) {r : ℕ} {numbers' bytes' : List ℕ} → k ≤ count → count ≤ k → count ≤ ATTCNT → ((long : ℕ) (s : List ℕ) (xs : List Attribute) → 1 ≤ e → ListAt long s lists (LIST * (e - 1)) xs → count ≡ length xs)
      → PutsFirst lists marks e k n numbers bytes r numbers' bytes' → PutsWritten lists marks e n numbers bytes r numbers' bytes'
  first_all k count a b f counts p =
      record {
        events = p.events;
        few = record { puts = p.few.puts; counted = p.few.counted; few = omega (arith, p.few.few); nothing = p.few.nothing };
        are = λ long s d xs ws h l m.
            let size = counts long s xs h l in
            p.are long s d xs ws h l m (omega arith) ∙ ap (λ (ys : List Attribute). attribute_events 1 s ys d ws) (take_all k xs (omega arith));
      }

-- An element without attributes

events_none : (s : List ℕ) (xs : List Attribute) (d : List ℕ) (ws : List Written) → length xs ≡ 0 → [] ≡ attribute_events 1 s xs d ws
unfolding attribute_events
events_none s [] d ws h = refl
events_none s (a ∷ xs) d ws h = absurd (omega (arith, h))

module _ (lists : List ℕ) (e n : ℕ) (numbers bytes : List ℕ) where
  put_nothing : PutsFew ATTCNT e n numbers bytes n numbers bytes []
  put_nothing = record { puts = puts_none numbers bytes n; counted = omega arith; few = omega arith; nothing = λ z. refl }

  -- Nor has any where no element has a list.
  pub written_none : (marks : List ℕ) → length lists ≡ 0 → PutsWritten lists marks e n numbers bytes n numbers bytes
  written_none marks h =
      record {
        events = [];
        few = put_nothing;
        are = λ long s d xs ws o l m. events_none s xs d ws (sym l.counted ∙ get_or-eq_default lists 0 (omega arith));
      }

  pub defaults_none : (count : ℕ) → count ≡ 0 → ((long : ℕ) (s : List ℕ) (xs : List Attribute) → 1 ≤ e → ListAt long s lists (LIST * (e - 1)) xs → count ≡ length xs) → PutsDefaults lists e n numbers bytes n numbers bytes
  defaults_none count z counts =
      record {
        events = [];
        few = put_nothing;
        are = λ long s d xs o l. events_none s xs d [] (sym (counts long s xs o l) ∙ z);
      }

-- The same where the two ways of a branch come together.
pub written_same : {lists marks : List ℕ} {e n : ℕ} {numbers bytes : List ℕ} {r q : ℕ} {numbers' bytes' numbers'' bytes'' : List ℕ} → PutsWritten lists marks e n numbers bytes r numbers' bytes' → numbers'' ≡ numbers' → bytes'' ≡ bytes' → q ≡ r
    → PutsWritten lists marks e n numbers bytes q numbers'' bytes''
written_same h i j k = rw (i, j, k) h

-- Where nothing is marked all are defaulted.
pub defaults_unmarked : (lists : List ℕ) (e n : ℕ) (numbers bytes : List ℕ) {r : ℕ} {numbers' bytes' : List ℕ} → PutsWritten lists (replicate MARKS 0) e n numbers bytes r numbers' bytes' → PutsDefaults lists e n numbers bytes r numbers' bytes'
unfolding given_for
defaults_unmarked lists e n numbers bytes p =
    record {
      events = p.events;
      few = p.few;
      are = λ c s d xs o l. p.are c s d xs [] o l (λ k h. get_or-replicate MARKS (2 * k) 0 0 (omega (arith, h, l.few)));
    }
