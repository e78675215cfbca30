-- The walks decide one reading of every document: any two decisions that mean them read it alike.
use Rattle.std.specs.Prelude.{ℕ, ◌≡◌, refl, true, List, [], ◌∷◌, ◌++◌}
use Rattle.std.proofs.Common.{sym, ◌∙◌, ap, ap₂, subst}
use Rattle.std.proofs.lemmas.Bool.{false≢true}
use Rattle.rules.specs.Settings.{Settings}
use Rattle.rules.specs.Walk.{Group, Begins}
use Rattle.rules.specs.TypeFile.{Place, Content, empty, model, Element}
use Rattle.rules.specs.Elements.{content_of, has_model}
use Rattle.rules.specs.Decisions.{pcdata, Decisions, Means}
use Rattle.rules.specs.Settling.{Open, State, nothing_open, take_place, enter}
use Rattle.rules.specs.Records.{Line, line_after}
use Rattle.rules.specs.Reader.{settle_piece, piece_under, document}
use Rattle.rules_laws.specs.Holds.{Any, got_so, each}
use Rattle.rules_laws.specs.Both.{so, first, same}
use Rattle.rules_laws.specs.In.{All, none, more}
use Rattle.and_laws.specs.Begun.{begins_none}
use Rattle.document_laws.specs.Agree.{agree}
use Rattle.document_laws.specs.Moves.{fresh, parent, parent_is, Answers, Chosen, fits, required, Moves, Itself, keeps_ends, itself_fresh, with_datum, line_same, settle_piece_both, document_both}
unfoldable pub use Rattle.document_laws.specs.Chain.{link}
pub use Rattle.rules.specs.Acts.{Passes, begins, goes}

-- Open elements whose places taken begin a walk

pub record Begun (es : List Element) (o : Open) : Type 0 where
  pub group : Group
  pub places : List Place
  pub tokens : ℕ
  pub has : content_of es o.element ≡ model group places tokens
  pub begins : Begins group o.taken

pub record AllBegun (es : List Element) (z : State) : Type 0 where
  pub current : Begun es z.current
  pub around : All (Begun es) z.around

fresh_begun : (es : List Element) (k : ℕ) → has_model (content_of es k) ≡ true → Begun es (fresh k)
fresh_begun es k h = go (content_of es k) refl h
  where
    go : (c : Content) → content_of es k ≡ c → has_model c ≡ true → Begun es (fresh k)
    go empty e i = absurd (false≢true i)
    go (model g ps n) e i = record { group = g; places = ps; tokens = n; has = e; begins = begins_none g }

pub nothing_begun : (es : List Element) → AllBegun es nothing_open
nothing_begun es = record { current = fresh_begun es 0 refl; around = none }

-- Every move keeps them so.
parent_begun : (es : List Element) (z : State) → AllBegun es z → AllBegun es (parent z)
parent_begun es z g = parent_is (AllBegun es) z g (λ u around e. go u around (rw e at g.around))
  where
    go : (u : Open) (around : List Open) → All (Begun es) (u ∷ around) → AllBegun es (record { current = u; around = around; events = z.events })
    go u around (more b a) = record { current = b; around = a }

module _ (s : List ℕ) (es : List Element) (D E : Decisions) (x : Means s es D) (y : Means s es E) where
  alike : (o : Open) → Begun es o → Answers s es D E o o
  alike o b =
      let a = agree s es D E x y o.element b.has o.taken b.begins in
      record { element = refl; fits = a.fits; complete = a.complete; required = a.required }

  -- The places taken go on to begin a walk.
  took_begun : (o : Open) (p : ℕ) → Begun es o → Chosen s es D o p → Begun es (record { element = o.element; taken = o.taken ++ p ∷ [] })
  took_begun o p b (fits t l) =
      record { group = b.group; places = b.places; tokens = b.tokens; has = b.has; begins = (((x.walks o.element b.has o.taken b.begins).fits t).some l).next }
  took_begun o p b (required l) =
      record { group = b.group; places = b.places; tokens = b.tokens; has = b.has; begins = ((x.walks o.element b.has o.taken b.begins).required.some l).next }

  pub begun_moves : Moves s es D E (Itself (AllBegun es))
  begun_moves =
      record {
        ends =
            keeps_ends
            (record {
              alike = λ {z} g. alike z.current g.current;
              note = λ g e k. record { current = g.current; around = g.around };
              leave = λ {z} g. parent_begun es z g;
            });
        taking = λ {z} q p c. (ap (take_place p) q.0, record { current = took_begun z.current p q.1.current c; around = q.1.around });
        enter = λ q k m. (ap (enter k) q.0, record { current = fresh_begun es k m; around = more q.1.current q.1.around });
      }

  begun_datum : (at : ℕ) (z w : State) → Itself (AllBegun es) z w → Itself (AllBegun es) (with_datum at z) (with_datum at w)
  begun_datum at z w q = (ap (with_datum at) q.0, record { current = q.1.current; around = q.1.around })

  -- Two decisions that mean the walks read every document alike.
  pub document_one : (c : Settings) (d : List ℕ) → document c s es D d ≡ document c s es E d
  document_one c d =
      same (document_both begun_moves begun_datum d c Any tt (λ at l o h. each (piece_under c s es d at l o) (λ n k e. tt) (λ p e. tt)) (λ at n k l h. tt) (itself_fresh (AllBegun es)) (refl, nothing_begun es))

-- The states that reading comes to

module _ (s : List ℕ) (es : List Element) (D : Decisions) where
  -- In each of them the places taken begin walks.
  pub passes_begun : {c : Settings} → Means s es D → (d : List ℕ) {at : ℕ} {l : Line} {z : State} → Passes c s es D d at l z → AllBegun es z
  passes_begun x d begins = nothing_begun es
  passes_begun x d (goes {at} {l} {z} {p} r h i e f) =
      got_so (first (settle_piece_both (begun_moves s es D D x x) (begun_datum s es D D x x) d p at (refl, passes_begun x d h)) (λ r w a. a.keeps.1)) f

-- Two decisions that mean the walks come to the same states.
pub passes_same : {c : Settings} (s : List ℕ) (es : List Element) (D E : Decisions) → Means s es D → Means s es E → (d : List ℕ) {at : ℕ} {l : Line} {z : State} → Passes c s es D d at l z → Passes c s es E d at l z
passes_same s es D E x y d begins = begins
passes_same {c} s es D E x y d (goes {at} {l} {z} {p} r h i e f) = subst (λ (k : Line). Passes c s es E d r.at k r.state) (sym line) (goes r (passes_same s es D E x y d h) i e (sym settles ∙ f))
  where
    line : line_after s es D d p at l z ≡ line_after s es E d p at l z
    line = line_same s es D E d p at l z z (((begun_moves s es D E x y).ends.alike (refl, passes_begun s es D x d h)).fits pcdata)

    settles : settle_piece s es D d p at z ≡ settle_piece s es E d p at z
    settles =
        same (so (settle_piece_both (begun_moves s es D E x y) (begun_datum s es D E x y) d p at (refl, passes_begun s es D x d h)) (λ n k i. i)
        (λ u w a. ap₂ (λ (i : ℕ) (q : State). record { at = i; state = q }) (a.first ∙ sym a.second) a.keeps.0))
