-- The chain of starts, looked for element by element, is the chain of the rules.
use Prim.Native.Nat.{ℕ, zero, suc, ◌+◌, ◌-◌, ◌≤◌, ◌<◌}
use Rattle.std.proofs.Math.Path.{◌≡◌, refl, sym, ap}
use Rattle.std.proofs.Common.{◌∙◌, le-leb}
use Rattle.std.specs.Prelude.{Bool, true, false, ◌&&◌, List, [], ◌∷◌, length, leb}
use native.Mathlib.Omega.{arith}
use Rattle.rules.specs.TypeFile.{Element}
use Rattle.rules.specs.Elements.{content_of, has_model, start_o}
use Rattle.rules.specs.Decisions.{Token, Decisions}
use Rattle.rules.specs.Settling.{Open, element_of, fitting, required_place, inferable, chain}
use Rattle.rules.specs.Bytes.{element_limit}
use Rattle.layout.specs.declared.Place.{Place}
use Rattle.layout.specs.Typed.{place_no}
use Rattle.document_laws.specs.Decide.{decided}
use Rattle.document_laws.specs.Moves.{fresh}
use Rattle.document_laws.specs.Same.{link}
use Rattle.document_laws.specs.Chain.{chain_leads, chain_shortest}
use Rattle.type_laws.specs.Names.{number_of_range}
use Rattle.type_tables.specs.Tables.{name_number, Declares, Tables, Entered}
use Rattle.ways.specs.declared.Way.TheVariants.{Taken, Inferred, Stuck}
use Rattle.ways.specs.Asks.{way_of, chained, Requires}

-- One turn of a chain

link_more : (k f : ℕ) (r q : List ℕ) → ((j : ℕ) (js : List ℕ) → r ≡ j ∷ js → q ≡ j ∷ js) → (i : ℕ) (is : List ℕ) → link k f r ≡ i ∷ is → link k f q ≡ i ∷ is
unfolding link
link_more k f r q h i is = by_tests (leb 1 k) (leb 1 f) r h
  where
    by_tests : (b c : Bool) (r : List ℕ) → ((j : ℕ) (js : List ℕ) → r ≡ j ∷ js → q ≡ j ∷ js)
        → elim b [ true ↦ elim c [ true ↦ k ∷ [] | false ↦ elim r [ [] ↦ [] | j ∷ js ↦ k ∷ j ∷ js ] ] | false ↦ [] ] ≡ i ∷ is
        → elim b [ true ↦ elim c [ true ↦ k ∷ [] | false ↦ elim q [ [] ↦ [] | j ∷ js ↦ k ∷ j ∷ js ] ] | false ↦ [] ] ≡ i ∷ is
    by_tests true true r h e = e
    by_tests true false [] h e = absurd (let z : ◌≡◌ {A = ℕ} 0 1 = cc in omega arith)
    by_tests true false (j ∷ js) h e = rw (h j js refl) e
    by_tests false c r h e = e

-- How many starts there are, if any, after k others.
abbrev past : ℕ → List ℕ → ℕ
past k [] = 0
past k (j ∷ js) = k + length (j ∷ js)

past_found : (k c f : ℕ) (r : List ℕ) → 1 ≤ c → 1 ≤ f → past k (link c f r) ≡ k + 1
unfolding link
past_found k c f r l h = rw (link, le-leb 1 c l, le-leb 1 f h)

past_on : (k c : ℕ) (r : List ℕ) → 1 ≤ c → past k (link c 0 r) ≡ past (k + 1) r
unfolding link
past_on k c [] l = rw (link, le-leb 1 c l)
past_on k c (j ∷ js) l = rw (link, le-leb 1 c l) (omega arith)

past_none : (k : ℕ) (f : ℕ) (r : List ℕ) → past k (link 0 f r) ≡ 0
unfolding link
past_none k f r = refl

-- These hold by whatever decisions.
module _ (s : List ℕ) (es : List Element) (D : Decisions) where
  -- The element whose start is inferred is one of the type.
  pub inferable_most : (o : Open) → inferable s es D o ≤ length es
  unfolding inferable
  inferable_most o = by_test (leb 1 p && (leb 1 k && (start_o es k && has_model (content_of es k))))
    where
      p : ℕ
      p = required_place s es D o

      k : ℕ
      k = element_of s es o p

      by_test : (b : Bool) → elim b [ true ↦ k | false ↦ 0 ] ≤ length es
      by_test true = number_of_range s es s _ _
      by_test false = omega arith

  module _ (t : Token) where
    -- The chain among so many elements, whose first is c.
    unfoldable pub chain_from : (left c : ℕ) → List ℕ
    chain_from zero c = []
    chain_from (suc left) c = link c (fitting s es D (fresh c) t) (chain_from left (inferable s es D (fresh c)))

    chain_from_lem : (n : ℕ) (o : Open) → chain s es D n t o ≡ chain_from n (inferable s es D o)
    unfolding chain link chain_from
    chain_from_lem zero o = refl
    chain_from_lem (suc n) o =
        let k = inferable s es D o in
        ap (link k (fitting s es D (fresh k) t)) (chain_from_lem n (fresh k))

    -- A chain that is found among n elements is found among more.
    chain_more : (n m : ℕ) → n ≤ m → (o : Open) (k : ℕ) (ks : List ℕ) → chain s es D n t o ≡ k ∷ ks → chain s es D m t o ≡ k ∷ ks
    unfolding chain link
    chain_more zero m l o k ks e = absurd (let z : ◌≡◌ {A = ℕ} 0 1 = cc in omega arith)
    chain_more (suc n) zero l o k ks e = absurd (omega arith)
    chain_more (suc n) (suc m) l o k ks e =
        let j = inferable s es D o in
        link_more j (fitting s es D (fresh j) t) _ _ (λ i is. chain_more n m (omega arith) (fresh j) i is) k ks e

    -- To look among more than there are finds no other.
    pub chain_enough : (n : ℕ) → length es ≤ n → (o : Open) → chain s es D n t o ≡ chain s es D (length es) t o
    chain_enough n l o = by_chain _ refl _ refl
      where
        by_chain : (r : List ℕ) → chain s es D (length es) t o ≡ r → (q : List ℕ) → chain s es D n t o ≡ q → q ≡ r
        by_chain (k ∷ ks) e q f = sym f ∙ chain_more (length es) n l o k ks e
        by_chain [] e [] f = refl
        by_chain [] e (k ∷ ks) f =
            let (js, g, h) = chain_shortest s es D t o k ks (chain_leads s es D t n o k ks f) in
            absurd (let z : ◌≡◌ {A = ℕ} 0 1 = cc in omega arith)

-- The loop: what is still to be looked for, from the element c on after n - 1 others, gives the chain.
pub record Ahead (s : List ℕ) (es : List Element) (D : Decisions) (t : Token) (o : Open) (c n : ℕ) : Type 0 where
  pub within : c ≤ length es
  pub still : chained s es D t o ≡ past (n - 1) (chain_from s es D t (element_limit + 1 - n) c)

module _ (s : List ℕ) (es : List Element) (D : Decisions) (t : Token) (o : Open) (few : length es ≤ element_limit) where
  ahead_start : (c : ℕ) → c ≡ inferable s es D o → Ahead s es D t o c 1
  ahead_start c e =
      record {
        within = rw e (inferable_most s es D o);
        still = ap length (sym (chain_enough s es D t element_limit few o) ∙ chain_from_lem s es D t element_limit o) ∙ past_all (chain_from s es D t element_limit (inferable s es D o)) ∙ ap (λ k. past 0 (chain_from s es D t element_limit k)) (sym e);
      }
    where
      past_all : (l : List ℕ) → length l ≡ past 0 l
      past_all [] = refl
      past_all (j ∷ js) = omega arith

module _ (s : List ℕ) (es : List Element) (D : Decisions) (t : Token) (o : Open) (c n : ℕ) (some : 1 ≤ n) (h : Ahead s es D t o c n) where
  ahead_over : element_limit < n → 0 ≡ chained s es D t o
  unfolding chain_from
  ahead_over l = let e : element_limit + 1 - n ≡ 0 = omega arith in sym (h.still ∙ rw (e, chain_from))

  -- This is one turn, where there is one.
  turn : (l : ℕ) → l ≡ element_limit + 1 - n → 1 ≤ l → chained s es D t o ≡ past (n - 1) (link c (fitting s es D (fresh c) t) (chain_from s es D t (element_limit + 1 - (n + 1)) (inferable s es D (fresh c))))
  unfolding chain_from
  turn zero e i = absurd (omega arith)
  turn (suc l) e i =
      let f : l ≡ element_limit + 1 - (n + 1) = omega arith in
      h.still ∙ rw (← e, chain_from, f)

  ahead_none : n ≤ element_limit → c ≡ 0 → 0 ≡ chained s es D t o
  ahead_none l e = sym (turn _ refl (omega arith) ∙ rw e (past_none (n - 1) _ _))

  ahead_found : n ≤ element_limit → (c ≡ 0 → ⊥) → (fitting s es D (fresh c) t ≡ 0 → ⊥) → n ≡ chained s es D t o
  ahead_found l i j = let e : (n - 1) + 1 ≡ n = omega arith in sym (turn _ refl (omega arith) ∙ past_found (n - 1) c _ _ (omega arith) (omega arith) ∙ e)

  ahead_next : n ≤ element_limit → (c ≡ 0 → ⊥) → fitting s es D (fresh c) t ≡ 0 → (k : ℕ) → k ≡ inferable s es D (fresh c) → Ahead s es D t o k (n + 1)
  ahead_next l i f k e =
      let m : (n - 1) + 1 ≡ n + 1 - 1 = omega arith in
      record {
        within = rw e (inferable_most s es D (fresh c));
        still = turn _ refl (omega arith) ∙ rw (f, past_on (n - 1) c _ (omega arith), m, ← e);
      }

-- The same in every type whose tables these are and where the place q is required, for the token whose name is x.
pub record Looks (rows places facts : List ℕ) (e q x c n : ℕ) : Type 0 where
  pub left : (s : List ℕ) (es : List Element) (M : List ℕ) → Tables s es rows places facts M → (o : Open) → Requires s es M e q o → (t : Token) → name_number t ≡ x → Declares es t → Ahead s es (decided s es) t o c n

-- Where that is so of the first element of a chain, whatever requires it, it is so of the element c after n - 1 others.
pub record Carries (rows places facts : List ℕ) (x first c n : ℕ) : Type 0 where
  pub on : (e q : ℕ) → Looks rows places facts e q x first 1 → Looks rows places facts e q x c n

-- The chain has so many starts, for the token whose name is x.
abbrev Counts : (rows places facts : List ℕ) (e q x n : ℕ) → Type 0
Counts rows places facts e q x n =
    (s : List ℕ) (es : List Element) (M : List ℕ) → Tables s es rows places facts M → (o : Open) → Requires s es M e q o → (t : Token) → name_number t ≡ x → Declares es t → n ≡ chained s es (decided s es) t o

-- That token fits as the place p at the start of c, or p is 0.
abbrev FitsFirst : (rows places facts : List ℕ) (c x p : ℕ) → Type 0
FitsFirst rows places facts c x p =
    (s : List ℕ) (es : List Element) (M : List ℕ) → Tables s es rows places facts M → c ≤ length es → (t : Token) → name_number t ≡ x → Declares es t → p ≡ (decided s es).fits c [] t

module _ (rows places facts : List ℕ) (e q x : ℕ) where
  pub looks_start : (c : ℕ)
      → ((s : List ℕ) (es : List Element) (some M : List ℕ) → Tables s es some places facts M
      → (o : Open) (begun : List ℕ) (level u : ℕ) → Entered es M begun level e u o → q ≡ required_place s es (decided s es) o → c ≡ inferable s es (decided s es) o)
      → Looks rows places facts e q x c 1
  looks_start c found =
      record { left = λ s es M tables o h t i d. ahead_start s es (decided s es) t o tables.few c (found s es rows M tables o h.begun h.level h.place h.entered h.required) }

  module _ (c n : ℕ) (h : Looks rows places facts e q x c n) where
    pub looks_over : 1 ≤ n → element_limit < n → Counts rows places facts e q x 0
    looks_over some l s es M tables o requires t i d = ahead_over s es (decided s es) t o c n some (h.left s es M tables o requires t i d) l

    module _ (some : 1 ≤ n) (most : n ≤ element_limit) where
      pub looks_none : c ≡ 0 → Counts rows places facts e q x 0
      looks_none z s es M tables o requires t i d = ahead_none s es (decided s es) t o c n some (h.left s es M tables o requires t i d) most z

      module _ (there : c ≡ 0 → ⊥) (p : ℕ) (fits : FitsFirst rows places facts c x p) where
        pub looks_found : (p ≡ 0 → ⊥) → Counts rows places facts e q x n
        looks_found z s es M tables o requires t i d =
            let a = h.left s es M tables o requires t i d in
            ahead_found s es (decided s es) t o c n some a most there (λ y. z (fits s es M tables a.within t i d ∙ y))

        pub looks_next : p ≡ 0 → (k : ℕ) → ((s : List ℕ) (es : List Element) (M : List ℕ) → Tables s es rows places facts M → c ≤ length es → k ≡ inferable s es (decided s es) (fresh c))
            → Looks rows places facts e q x k (n + 1)
        looks_next z k found =
            record {
              left = λ s es M tables o requires t i d.
                  let a = h.left s es M tables o requires t i d in
                  ahead_next s es (decided s es) t o c n some a most there (sym (fits s es M tables a.within t i d) ∙ z) k (found s es M tables a.within);
            }

-- What is answered of an element

-- The element is that of the rules.
pub fits_at : (s : List ℕ) {es : List Element} {M begun : List ℕ} {level e u : ℕ} {o : Open} (t : Token) → Entered es M begun level e u o → (decided s es).fits e o.taken t ≡ fitting s es (decided s es) o t
fits_at s {es} {o = o} t h = ap (λ k. (decided s es).fits k o.taken t) (sym h.number)

pub way_taken : (p : Place) (f n : ℕ) → p.0 ≡ f → (p.0 ≡ 0 → ⊥) → Taken p ≡ way_of f n
way_taken p f n = by_number p.0
  where
    by_number : (k : ℕ) → k ≡ f → (k ≡ 0 → ⊥) → Taken (place_no k) ≡ way_of f n
    by_number zero e z = absurd (z refl)
    by_number (suc k) e z = rw (← e)

pub way_inferred : (k f n : ℕ) → f ≡ 0 → k ≡ n → (k ≡ 0 → ⊥) → Inferred k ≡ way_of f n
way_inferred zero f n e i z = absurd (z refl)
way_inferred (suc k) f n e i z = rw (e, ← i)

pub way_stuck : (f n : ℕ) → f ≡ 0 → n ≡ 0 → Stuck ≡ way_of f n
way_stuck f n e i = rw (e, i)
