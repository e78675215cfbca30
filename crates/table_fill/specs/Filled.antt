-- The tables filled element by element: of those below a number they say what they are to say, of the others nothing yet.
use Rattle.std.specs.Prelude.{ℕ, zero, suc, ◌+◌, ◌-◌, ◌*◌, ◌≤◌, ◌<◌, ◌≡◌, refl, Bool, true, false, not, ◌&&◌, cond, List, length, get_or, set, eqb}
use Rattle.std.proofs.Common.{ap, ◌∙◌, arith, length-set, get_or-set_same, get_or-set_other, below_more, eq-eqb, ne_eqb}
use Rattle.std.proofs.lemmas.Bool.{false≢true}
use Rattle.rules.specs.Settings.{Settings}
use Rattle.rules.specs.Reading.{got}
use Rattle.rules.specs.Attributes.{needs_tag}
use Rattle.rules.specs.TypeFile.{Content, empty, model, Element, type_file}
use Rattle.rules.specs.Judge.{Accepts}
use Rattle.rules.specs.Elements.{element_at, content_of, places_in, has_model}
use Rattle.rules.specs.Decisions.{Token, has_name}
use Rattle.layout.specs.Sizes.{POSITIONS, ROWS, PLACES, FACT, FACTS, MEMBER, CONTENTS, END_OMITTED, HAS_MODEL, START_OMITTED, LINK}
use Rattle.document_laws.specs.Decide.{search}
use Rattle.rules_laws.specs.Within.{type_file_count}
use Rattle.rules.specs.Bytes.{GRPGTCNT, element_limit}
use Rattle.type_laws.specs.Width.{type_file_width}
use Rattle.type_tables.specs.Tables.{width, name_number, Declares, row_at, named_by, raised_place, PlainIn, ToldIn, Tables}
use Rattle.row_search.specs.Search.{search_most}
use Rattle.model_rows.specs.Rows.{RowSays, row_says_still}
use Rattle.table_fill.specs.Told.{TellsIn, tells_still, Lent}
use Rattle.table_fill.specs.Places.{PlacesPut, number_few}

-- What is said of one element

-- Of its omissions and its content: whether its start may be inferred, whether its end tag may be left out.
pub record TagsSay (x : Element) (c : Content) (e : ℕ) (facts : List ℕ) : Type 0 where
  pub start : eqb (get_or facts (e * FACT + START_OMITTED) 0) 1 ≡ (eqb x.start 1 && not (needs_tag x.attributes))
  pub end : get_or facts (e * FACT + END_OMITTED) 0 ≡ x.end
  pub has : get_or facts (e * FACT + HAS_MODEL) 0 ≡ cond (has_model c) 1 0

-- `b` says whether its numbers are raised.
pub record ElementSays (s : List ℕ) (es : List Element) (e : ℕ) (b : Bool) (rows places facts members : List ℕ) : Type 0 where
  pub rows_say : (u : ℕ) → u ≤ width es e → RowSays (content_of es e) b e u rows
  pub named : (p : ℕ) → 1 ≤ p → p ≤ width es e → get_or places ((e * POSITIONS + p) * LINK) 0 ≡ named_by s es (places_in (content_of es e)) p
  pub smaller : (p : ℕ) (t : Token) → 1 ≤ p → p ≤ width es e → Declares es t → has_name s es (places_in (content_of es e)) t p ≡ true → get_or places ((e * POSITIONS + p) * LINK + 1) 0 ≡ search (has_name s es (places_in (content_of es e)) t) (p - 1)
  pub largest : (t : Token) → Declares es t → get_or facts (e * FACT + name_number t) 0 ≡ raised_place b (search (has_name s es (places_in (content_of es e)) t) (width es e))
  pub tags : 1 ≤ e → TagsSay (element_at es (e - 1)) (content_of es e) e facts
  pub plain : b ≡ false → PlainIn (content_of es e)
  pub told : b ≡ true → TellsIn members e (content_of es e)

-- The tables are filled up to the element n.
pub record Filled (s : List ℕ) (es : List Element) (rows places facts members : List ℕ) (n : ℕ) : Type 0 where
  pub rows_len : length rows ≡ ROWS
  pub places_len : length places ≡ PLACES
  pub facts_len : length facts ≡ FACTS
  pub rows_rest : (k : ℕ) → row_at n 0 ≤ k → get_or rows k 0 ≡ 0
  pub facts_rest : (k : ℕ) → n * FACT ≤ k → get_or facts k 0 ≡ 0
  pub lent : Lent s members
  pub members_rest : (k : ℕ) → n * MEMBER ≤ k → get_or members k 0 ≡ 0
  pub raised : ℕ → Bool
  pub says : (e : ℕ) → e < n → ElementSays s es e (raised e) rows places facts members

-- What is put of one element

-- Its rows, and nothing else.
pub record RowsFor (c : Content) (b : Bool) (e : ℕ) (T S : List ℕ) : Type 0 where
  pub len : length S ≡ ROWS
  pub under : (k : ℕ) → k < row_at e 0 → get_or S k 0 ≡ get_or T k 0
  pub over : (k : ℕ) → row_at (e + 1) 0 ≤ k → get_or S k 0 ≡ get_or T k 0
  pub says : (u : ℕ) → u ≤ length (places_in c) → RowSays c b e u S

-- Its omissions and its content, and nothing else; the document itself has none.
pub record TagsPut (x : Element) (c : Content) (e : ℕ) (F G : List ℕ) : Type 0 where
  pub len : length G ≡ FACTS
  pub under : (k : ℕ) → k < e * FACT + START_OMITTED → get_or G k 0 ≡ get_or F k 0
  pub over : (k : ℕ) → e * FACT + FACT ≤ k → get_or G k 0 ≡ get_or F k 0
  pub tags : 1 ≤ e → TagsSay x c e G

-- The largest places of the first n names are raised or not, and nothing else.
pub record LargestPut (b : Bool) (e : ℕ) (F G : List ℕ) (n : ℕ) : Type 0 where
  pub len : length G ≡ FACTS
  pub under : (k : ℕ) → k < e * FACT → get_or G k 0 ≡ get_or F k 0
  pub over : (k : ℕ) → e * FACT + n ≤ k → get_or G k 0 ≡ get_or F k 0
  pub largest : (x : ℕ) → x < n → get_or F (e * FACT + x) 0 ≤ GRPGTCNT → get_or G (e * FACT + x) 0 ≡ raised_place b (get_or F (e * FACT + x) 0)

-- A model without "&" needs no members; those of one with "&" are put, and nothing else.
pub record MembersPut (s : List ℕ) (c : Content) (b : Bool) (e : ℕ) (M S : List ℕ) : Type 0 where
  pub lent : Lent s S
  pub len : length S ≡ length M
  pub under : (k : ℕ) → k < e * MEMBER → get_or S k 0 ≡ get_or M k 0
  pub over : (k : ℕ) → e * MEMBER + MEMBER ≤ k → get_or S k 0 ≡ get_or M k 0
  pub plain : b ≡ false → PlainIn c
  pub told : b ≡ true → TellsIn S e c

same_place : (n : ℕ) → n ≡ raised_place false n
same_place zero = refl
same_place (suc n) = refl

pub largest_same : (e : ℕ) (F : List ℕ) → length F ≡ FACTS → LargestPut false e F F CONTENTS
largest_same e F len = record { len = len; under = λ k l. refl; over = λ k l. refl; largest = λ x l m. same_place (get_or F (e * FACT + x) 0) }

module _ (e : ℕ) (F : List ℕ) where
  pub raise_none : length F ≡ FACTS → LargestPut true e F F 0
  raise_none len = record { len = len; under = λ k l. refl; over = λ k l. refl; largest = λ x l m. absurd (omega arith) }

  pub raise_more : (G : List ℕ) (x i v : ℕ) → e ≤ element_limit → x < CONTENTS → LargestPut true e F G x → i ≡ e * FACT + x → (get_or G i 0 ≤ GRPGTCNT → v ≡ raised_place true (get_or G i 0)) → LargestPut true e F (set G i v) (x + 1)
  raise_more G x i v e_to x_to h w is =
      let l : length G ≡ FACTS = h.len in
      let q : get_or G i 0 ≡ get_or F (e * FACT + x) 0 = ap (λ (k : ℕ). get_or G k 0) w ∙ h.over (e * FACT + x) (omega arith) in
      record {
        len = length-set G i v ∙ l;
        under = λ k a. get_or-set_other G i k v 0 (omega arith) ∙ h.under k a;
        over = λ k a. get_or-set_other G i k v 0 (omega arith) ∙ h.over k (omega arith);
        largest =
            below_more (λ (y : ℕ). get_or F (e * FACT + y) 0 ≤ GRPGTCNT → get_or (set G i v) (e * FACT + y) 0 ≡ raised_place true (get_or F (e * FACT + y) 0)) x
            (λ y a m. get_or-set_other G i (e * FACT + y) v 0 (omega arith) ∙ h.largest y a m)
            (λ m. rw (← w) (get_or-set_same G i v 0 (omega arith)) ∙ is (omega arith) ∙ ap (raised_place true) q);
      }

pub members_same : (s : List ℕ) (c : Content) (e : ℕ) (M : List ℕ) → Lent s M → PlainIn c → MembersPut s c false e M M
members_same s c e M lent p = record { lent = lent; len = refl; under = λ k l. refl; over = λ k l. refl; plain = λ x. p; told = λ x. absurd (false≢true x) }

width_few : (long : ℕ) (s : List ℕ) (es : List Element) → type_file long s ≡ got es → (e : ℕ) → width es e ≤ GRPGTCNT
width_few long s es read e = by_content (content_of es e) refl
  where
    by_content : (x : Content) → content_of es e ≡ x → length (places_in x) ≤ GRPGTCNT
    by_content empty q = omega arith
    by_content (model g ps n) q = omega (arith, type_file_width long s es read e q)

told_in : (M : List ℕ) (e : ℕ) (c : Content) → TellsIn M e c → ToldIn M e c
told_in M e empty h = tt
told_in M e (model g ps n) h = h.0

module _ (long : ℕ) (s : List ℕ) (es : List Element) (read : type_file long s ≡ got es) where
  -- What is said of an element stays so where its numbers stay.
  still : (e : ℕ) (b : Bool) (R P F M R' P' F' M' : List ℕ) → ((k : ℕ) → k < row_at (e + 1) 0 → get_or R' k 0 ≡ get_or R k 0) → ((k : ℕ) → k < (e + 1) * POSITIONS * 2 → get_or P' k 0 ≡ get_or P k 0)
      → ((k : ℕ) → k < (e + 1) * FACT → get_or F' k 0 ≡ get_or F k 0) → ((k : ℕ) → k < (e + 1) * MEMBER → get_or M' k 0 ≡ get_or M k 0) → length M' ≡ length M → ElementSays s es e b R P F M → ElementSays s es e b R' P' F' M'
  still e b R P F M R' P' F' M' rows places facts members len h =
      let w = width_few long s es read e in
      record {
        rows_say = λ u l. row_says_still (content_of es e) b e u R R' (λ k a b. rows k (omega arith)) (h.rows_say u l);
        named = λ p a b. places ((e * POSITIONS + p) * LINK) (omega arith) ∙ h.named p a b;
        smaller = λ p t a b d y. places ((e * POSITIONS + p) * LINK + 1) (omega arith) ∙ h.smaller p t a b d y;
        largest = λ t d. facts (e * FACT + name_number t) (omega (arith, number_few es t (type_file_count long s es read).1 d)) ∙ h.largest t d;
        tags = λ l.
            let t = h.tags l in
            record {
              start = ap (λ (n : ℕ). eqb n 1) (facts (e * FACT + START_OMITTED) (omega arith)) ∙ t.start;
              end = facts (e * FACT + END_OMITTED) (omega arith) ∙ t.end;
              has = facts (e * FACT + HAS_MODEL) (omega arith) ∙ t.has;
            };
        plain = h.plain;
        told = λ x. tells_still M M' e (λ k l. members (e * MEMBER + k) (omega arith)) len (content_of es e) (h.told x);
      }

  -- One more element is put.
  module _ (e : ℕ) (b : Bool) (R P F M : List ℕ) (h : Filled s es R P F M e) (R' G P' H F' M' : List ℕ) (r : RowsFor (content_of es e) b e R R') (t : TagsPut (element_at es (e - 1)) (content_of es e) e F G)
      (w : PlacesPut s es (places_in (content_of es e)) e P G P' H (width es e + 1)) (f : LargestPut b e H F' CONTENTS) (m : MembersPut s (content_of es e) b e M M') where
    says_it : ElementSays s es e b R' P' F' M'
    says_it =
        let z : width es e + 1 - 1 ≡ width es e = omega arith in
        record {
          rows_say = r.says;
          named = λ p a b. w.named p (omega arith) a;
          smaller = λ p y a b d q. w.smaller p (omega arith) a y d q;
          largest = λ y d.
              let is = rw z at (w.largest y d) in
              let most = search_most (has_name s es (places_in (content_of es e)) y) (width es e) in
              f.largest (name_number y) (omega (arith, number_few es y (type_file_count long s es read).1 d)) (omega (arith, is, most, width_few long s es read e)) ∙ ap (raised_place b) is;
          tags = λ l.
              let x = t.tags l in
              record {
                start = ap (λ (n : ℕ). eqb n 1) (f.over (e * FACT + START_OMITTED) (omega arith) ∙ w.facts_over (e * FACT + START_OMITTED) (omega arith)) ∙ x.start;
                end = f.over (e * FACT + END_OMITTED) (omega arith) ∙ w.facts_over (e * FACT + END_OMITTED) (omega arith) ∙ x.end;
                has = f.over (e * FACT + HAS_MODEL) (omega arith) ∙ w.facts_over (e * FACT + HAS_MODEL) (omega arith) ∙ x.has;
              };
          plain = m.plain;
          told = m.told;
        }

    pub filled_more : Filled s es R' P' F' M' (e + 1)
    filled_more =
        record {
          rows_len = r.len;
          places_len = w.places_len;
          facts_len = f.len;
          rows_rest = λ k l. r.over k l ∙ h.rows_rest k (omega arith);
          facts_rest = λ k l. f.over k (omega arith) ∙ w.facts_over k (omega arith) ∙ t.over k (omega arith) ∙ h.facts_rest k (omega arith);
          lent = m.lent;
          members_rest = λ k l. m.over k (omega arith) ∙ h.members_rest k (omega arith);
          raised = λ i. cond (eqb i e) b (h.raised i);
          says =
              below_more (λ (i : ℕ). ElementSays s es i (cond (eqb i e) b (h.raised i)) R' P' F' M') e
              (λ i l.
              rw (ne_eqb i e (λ q. omega arith))
              (still i (h.raised i) R P F M R' P' F' M' (λ k a. r.under k (omega arith)) (λ k a. w.places_under k (omega arith))
              (λ k a. f.under k (omega arith) ∙ w.facts_under k (omega arith) ∙ t.under k (omega arith)) (λ k a. m.under k (omega arith)) m.len (h.says i l)))
              (rw (eq-eqb e e refl) says_it);
        }

  -- All are put.
  pub filled_all : (c : Settings) (R P F M : List ℕ) → Accepts c s es → Filled s es R P F M (length es + 1) → Tables s es R P F M
  filled_all c R P F M a h =
      record {
        settings = c;
        accepted = a;
        few = (type_file_count long s es read).1;
        raised = h.raised;
        rows_say = record {
          next = λ e u p d l. ((h.says e (omega arith)).rows_say u l).next p;
          complete = λ e u d l. ((h.says e (omega arith)).rows_say u l).complete;
          required = λ e u d l. ((h.says e (omega arith)).rows_say u l).required;
        };
        places_say = record {
          named = λ e p d. (h.says e (omega arith)).named p;
          smaller = λ e p t d. (h.says e (omega arith)).smaller p t;
        };
        facts_say = record {
          largest = λ e t d. (h.says e (omega arith)).largest t;
          start = λ e l d. ((h.says e (omega arith)).tags l).start;
          end = λ e l d. ((h.says e (omega arith)).tags l).end;
          has = λ e l d. ((h.says e (omega arith)).tags l).has;
        };
        plain = λ e d. (h.says e (omega arith)).plain;
        told = λ e d x. told_in M e (content_of es e) ((h.says e (omega arith)).told x);
      }
