-- The marks of an open element after a place is taken, as the rows and what has begun give them: they are what the rules decide, and the element stands for the
-- rules' with this place more.
use Rattle.std.specs.Prelude.{ℕ, zero, suc, ◌+◌, ◌-◌, ◌/◌, ◌%◌, ◌^◌, ◌≤◌, ◌<◌, ◌≡◌, refl, Bool, true, false, ◌&&◌, not, cond, List, [], ◌∷◌, ◌++◌, length, get_or, eqb}
use Rattle.std.proofs.Common.{sym, ◌∙◌, subst, arith, eq-eqb, ne_eqb}
use Rattle.std.proofs.Math.Path.{ap}
use Rattle.std.proofs.Math.Bool.{and-false, and-true}
use Rattle.rules.specs.Walk.{Group, Members, Begins}
use Rattle.rules.specs.TypeFile.{Place, Content, model, Element}
use Rattle.rules.specs.Elements.{content_of}
use Rattle.rules.specs.Settling.{Open}
use Rattle.rules.specs.Bytes.{GRPGTCNT}
use Rattle.layout.specs.Sizes.{RAISE, REQUIRED}
use Rattle.model_sets.specs.Sets.{size, has, complete_in, required_in}
use Rattle.and_laws.specs.Base.{mem}
use Rattle.and_laws.specs.Sets.{Plain, Good, meets}
use Rattle.and_laws.specs.Numbers.{numbered_good}
use Rattle.and_laws.specs.Levels.{around, blocks_in, lone_in}
use Rattle.and_laws.specs.Ranked.{Level, levels}
use Rattle.and_laws.specs.Taken.{complete_from, required_from, IsTaken, groups_at, last_taken, plain_complete as rows_complete, plain_required as rows_required, complete_around, required_around}
use Rattle.and_laws.specs.Begun.{begins_none, last_or0_snoc, is_taken, next_range}
use Rattle.member_laws.specs.Members.{begun_at, Grouped, Told, Marked, AllMarked, Standing}
use Rattle.member_laws.specs.Numbered.{each_at, at_each}
use Rattle.member_laws.specs.Inside.{EachLevel, plain_levels}
use Rattle.member_laws.specs.Around.{numbered_small, chain_kept}
use Rattle.document_laws.specs.Decide.{is_complete_in, required_for, decided}
use Rattle.document_laws.specs.Moves.{fresh}
use Rattle.and_groups.specs.Takes.{Elsewhere, Blocked, free, held, Takes, FREE}
use Rattle.type_tables.specs.Tables.{width, row_at, raised_at, complete_row, required_row, complete_at, required_at, PlainIn, ToldIn, Tables, Entered, CanTake}
use Rattle.type_tables.specs.Ranges.{Modelled, modelled, width_most, required_most, start_complete, start_required}

-- The open element with the place p taken.
abbrev pub taking : ℕ → Open → Open
taking p o = record { element = o.element; taken = o.taken ++ p ∷ [] }

-- The marks as they are kept where `take` of and_groups answers r: `FREE` where no group blocks.
abbrev pub complete_by : (r : ℕ) → Bool → Bool
complete_by r b = cond (eqb r FREE) b false

abbrev pub required_by : (r kept : ℕ) → ℕ
required_by r kept = cond (eqb r FREE) (kept - RAISE) r

-- An element whose model is g

module _ (es : List Element) (M begun : List ℕ) (level e u : ℕ) (o : Open) {g : Group} {ps : List Place} {n : ℕ} (content : content_of es e ≡ model g ps n) where
  entered_by : o.element ≡ e → e ≤ length es → u ≤ width es e → Begins g o.taken → Standing begun level M e g u o.taken → Entered es M begun level e u o
  entered_by i d l b s =
      record {
        number = i;
        declared = d;
        place = l;
        begins = λ {g = h} {ps = qs} {n = k} c. subst (λ (x : Group). Begins x o.taken) (same c) b;
        stands = λ {g = h} {ps = qs} {n = k} c. subst (λ (x : Group). Standing begun level M e x u o.taken) (same c) s;
      }
    where
      same : {h : Group} {qs : List Place} {k : ℕ} → content_of es e ≡ model h qs k → g ≡ h
      same c = cc

-- Without "&" the bits say nothing.
plain_stands : (M begun : List ℕ) (level e : ℕ) (g : Group) → Plain g → (p : ℕ) (taken : List ℕ) → 1 ≤ p → Standing begun level M e g p (taken ++ p ∷ [])
plain_stands M begun level e g plain p taken l = record { last = last_taken taken p l; marked = λ a q i. subst (AllMarked begun level M e (mem (taken ++ p ∷ []))) (sym (plain_levels g plain 0 q)) refl }

-- The place that can be taken

module _ {s : List ℕ} {es : List Element} {rows places facts M before : List ℕ} {level e u p : ℕ} {o : Open} (tables : Tables s es rows places facts M) (entered : Entered es M before level e u o) (can : CanTake es o p) where
  abbrev g : Group
  g = can.group

  abbrev after_p : List ℕ
  after_p = o.taken ++ p ∷ []

  is_model : content_of es e ≡ model can.group can.places can.tokens
  is_model = ap (content_of es) (sym entered.number) ∙ can.content

  of_model : Modelled es e can.group
  of_model = modelled s es tables.accepted e is_model

  range : (1 ≤ p) × (p ≤ size g)
  range = next_range g of_model.numbered of_model.guarded o.taken p can.next

  within : p ≤ width es e
  within = omega (arith, range, of_model.wide)

  taken_p : IsTaken g p (mem after_p)
  taken_p = subst (λ (x : ℕ). IsTaken g x (mem after_p)) (last_or0_snoc o.taken p) (is_taken g of_model.numbered of_model.guarded after_p can.next)

  has_p : has g p ≡ true
  has_p = go p range.0 taken_p
    where
      go : (p : ℕ) → 1 ≤ p → IsTaken g p (mem after_p) → has g p ≡ true
      go zero l x = absurd (omega arith)
      go (suc p) l x = x.0

  around_p : groups_at g p ≡ around g p
  around_p = go p range.0
    where
      go : (p : ℕ) → 1 ≤ p → groups_at g p ≡ around g p
      go zero l = absurd (omega arith)
      go (suc p) l = refl

  complete_is : (decided s es).complete e after_p ≡ complete_from g p (mem after_p)
  unfolding is_complete_in
  complete_is = ap (λ (x : Content). is_complete_in x after_p) is_model ∙ ap (λ (x : ℕ). complete_from g x (mem after_p)) (last_or0_snoc o.taken p)

  required_is : (decided s es).required e after_p ≡ required_from g p (mem after_p)
  unfolding required_for
  required_is = ap (λ (x : Content). required_for x after_p) is_model ∙ ap (λ (x : ℕ). required_from g x (mem after_p)) (last_or0_snoc o.taken p)

  complete_read : complete_at rows e p ≡ complete_in g p
  complete_read = tables.rows_say.complete e p entered.declared within ∙ ap (λ (x : Content). complete_row x p) is_model

  required_read : (kept : ℕ) → kept ≡ get_or rows (row_at e p + REQUIRED) 0 → kept ≡ cond (tables.raised e) (RAISE + required_in g p) (required_in g p)
  required_read kept z = z ∙ tables.rows_say.required e p entered.declared within ∙ go p range.0 ∙ ap (λ (x : Content). cond (tables.raised e) (RAISE + required_row x p) (required_row x p)) is_model
    where
      go : (p : ℕ) → 1 ≤ p → raised_at (tables.raised e) p (required_row (content_of es e) p) ≡ cond (tables.raised e) (RAISE + required_row (content_of es e) p) (required_row (content_of es e) p)
      go zero l = absurd (omega arith)
      go (suc p) l = refl

  good : Good g
  good = numbered_good g 1 of_model.numbered of_model.guarded

  plain_of : tables.raised e ≡ false → Plain g
  plain_of x = subst PlainIn is_model (tables.plain e entered.declared x)

  told_of : tables.raised e ≡ true → Told M e g
  told_of x = subst (ToldIn M e) is_model (tables.told e entered.declared x)

  -- Without "&" the rows are what the rules decide.
  plain_required : tables.raised e ≡ false → required_in g p ≡ required_from g p (mem after_p)
  plain_required x = sym (rows_required g good (mem after_p) (plain_of x) p taken_p)

  plain_complete : tables.raised e ≡ false → complete_in g p ≡ complete_from g p (mem after_p)
  plain_complete x = sym (rows_complete g good (mem after_p) (plain_of x) p taken_p)

  after_is : (after : List ℕ) → Standing after level M e g p after_p → Entered es M after level e p (taking p o)
  after_is after stands = entered_by es M after level e p (taking p o) is_model entered.number entered.declared within can.next stands

  -- What is required is a place of the model.
  required_place_lem : required_from g p (mem after_p) ≤ GRPGTCNT
  required_place_lem = omega (arith, required_is, required_most s es tables.accepted e after_p (λ h qs k c. subst (λ (x : Group). Begins x after_p) (same h qs k c) can.next), width_most s es tables.accepted e)
    where
      same : (h : Group) (qs : List Place) (k : ℕ) → content_of es e ≡ model h qs k → can.group ≡ h
      same h qs k c = let m = is_model in cc

  -- The number tells whether the model has an "&".
  module _ {kept : ℕ} (read : kept ≡ get_or rows (row_at e p + REQUIRED) 0) where
    plain_kept : kept ≤ GRPGTCNT → (tables.raised e ≡ false) × (kept ≡ required_in g p)
    plain_kept l = go (tables.raised e) refl (required_read kept read)
      where
        go : (b : Bool) → tables.raised e ≡ b → kept ≡ cond b (RAISE + required_in g p) (required_in g p) → (tables.raised e ≡ false) × (kept ≡ required_in g p)
        go true x z = absurd (omega arith)
        go false x z = (x, z)

    among_kept : GRPGTCNT < kept → (tables.raised e ≡ true) × (kept - RAISE ≡ required_in g p)
    among_kept l = go (tables.raised e) refl (required_read kept read)
      where
        go : (b : Bool) → tables.raised e ≡ b → kept ≡ cond b (RAISE + required_in g p) (required_in g p) → (tables.raised e ≡ true) × (kept - RAISE ≡ required_in g p)
        go true x z = (x, omega arith)
        go false x z = absurd (omega (arith, plain_required x, required_place_lem))

    pub took_plain : kept ≤ GRPGTCNT → Entered es M before level e p (taking p o) × (complete_at rows e p ≡ (decided s es).complete e (o.taken ++ p ∷ [])) × (kept ≡ (decided s es).required e (o.taken ++ p ∷ []))
    took_plain small =
        let (x, z) = plain_kept small in (
          after_is before (plain_stands M before level e g (plain_of x) p o.taken range.0),
          complete_read ∙ plain_complete x ∙ sym complete_is,
          z ∙ plain_required x ∙ sym required_is,
        )

    pub took_among : {after : List ℕ} {r : ℕ} → GRPGTCNT < kept → Takes M level e u p before after r → Entered es M after level e p (taking p o) × (complete_by r (complete_at rows e p) ≡ (decided s es).complete e (o.taken ++ p ∷ [])) × (required_by r kept ≡ (decided s es).required e (o.taken ++ p ∷ []))
    took_among {after} {r} large takes =
        let (x, z) = among_kept large in
        let told = told_of x in
        let stands = entered.stands is_model in
        let (v, w) = go z (takes.blocked g of_model.numbered of_model.guarded of_model.few told o.taken stands has_p) in (
          after_is after (takes.stands g of_model.numbered of_model.guarded told o.taken stands has_p),
          v ∙ sym complete_is,
          w ∙ sym required_is,
        )
      where
        S : ℕ → Bool
        S = mem (o.taken ++ p ∷ [])

        complete_by_lem : (b : Bool) → blocks_in (around g p) p S ≡ b → complete_from g p S ≡ complete_in g p && not b
        complete_by_lem b y = complete_around g good S p taken_p ∙ ap (λ (ms : List Members). complete_in g p && not (blocks_in ms p S)) around_p ∙ ap (λ (t : Bool). complete_in g p && not t) y

        required_by_lem : (b : Bool) → blocks_in (around g p) p S ≡ b → required_from g p S ≡ cond b (lone_in (around g p) S) (required_in g p)
        required_by_lem b y = required_around g good S p taken_p ∙ ap (λ (ms : List Members). cond (blocks_in ms p S) (lone_in ms S) (required_in g p)) around_p ∙ ap (λ (t : Bool). cond t (lone_in (around g p) S) (required_in g p)) y

        go : kept - RAISE ≡ required_in g p → Blocked g p S r → (complete_by r (complete_at rows e p) ≡ complete_from g p S) × (required_by r kept ≡ required_from g p S)
        go z (free y f) =
            let t : eqb r FREE ≡ true = eq-eqb r FREE y in (
              ap (λ (b : Bool). cond b (complete_at rows e p) false) t ∙ complete_read ∙ sym (complete_by_lem false f ∙ and-true (complete_in g p)),
              ap (λ (b : Bool). cond b (kept - RAISE) r) t ∙ z ∙ sym (required_by_lem false f),
            )
        go z (held y few f) =
            let t : eqb r FREE ≡ false = ne_eqb r FREE (λ x. omega arith) in (
              ap (λ (b : Bool). cond b (complete_at rows e p) false) t ∙ sym (complete_by_lem true f ∙ and-false (complete_in g p)),
              ap (λ (b : Bool). cond b (kept - RAISE) r) t ∙ y ∙ sym (required_by_lem true f),
            )

-- Other levels, and the start

same_bits : (before after : List ℕ) (k level : ℕ) → Elsewhere level before after → (k ≡ level → ⊥) → (n : ℕ) → 1 ≤ n → n ≤ GRPGTCNT → begun_at after k n ≡ begun_at before k n
same_bits before after k level elsewhere other n a b = ap (λ (w : ℕ). eqb (w / 2 ^ ((n - 1) % 32) % 2) 1) (elsewhere k ((n - 1) / 32) other (omega arith))

module _ (M before after : List ℕ) (k e : ℕ) (same : (n : ℕ) → 1 ≤ n → n ≤ GRPGTCNT → begun_at after k n ≡ begun_at before k n) (S : ℕ → Bool) where
  same_marked : (l : Level) → Grouped M e l → Marked before k M e S l → Marked after k M e S l
  same_marked l kept marked =
      at_each _ _ (λ (n : ℕ) (g : Group). begun_at after k n ≡ meets g S) l.members
      (λ n g i. let small = numbered_small M e l kept n g i in same n small.0 small.1 ∙ each_at _ _ (λ (n : ℕ) (g : Group). begun_at before k n ≡ meets g S) l.members marked n g i)

  all_same : (ls : List Level) → EachLevel (Grouped M e) ls → AllMarked before k M e S ls → AllMarked after k M e S ls
  all_same [] kept marked = refl
  all_same (l ∷ ls) (x, kept) (y, marked) = (same_marked l x y, all_same ls kept marked)

-- What is written at one level leaves the others as they are.
pub entered_elsewhere : {s : List ℕ} {es : List Element} {rows places facts M before after : List ℕ} {level k e u : ℕ} {o : Open} → Tables s es rows places facts M → Entered es M before k e u o → Elsewhere level before after → (k ≡ level → ⊥) → Entered es M after k e u o
entered_elsewhere {s} {es} {rows} {places} {facts} {M} {before} {after} {level} {k} {e} {u} {o} tables entered elsewhere other =
    record {
      number = entered.number;
      declared = entered.declared;
      place = entered.place;
      begins = entered.begins;
      stands = λ {g} {ps} {n} c. let x = entered.stands c in record { last = x.last; marked = λ a q i. go g c q i (x.marked a q i) (tables.raised e) refl };
    }
  where
    go : (g : Group) {ps : List Place} {n : ℕ} → content_of es e ≡ model g ps n → (q : ℕ) → has g q ≡ true → AllMarked before k M e (mem o.taken) (levels g 0 q) → (b : Bool) → tables.raised e ≡ b → AllMarked after k M e (mem o.taken) (levels g 0 q)
    go g c q i marked true z =
        let told : Told M e g = subst (ToldIn M e) c (tables.told e entered.declared z) in
        all_same M before after k e (same_bits before after k level elsewhere other) (mem o.taken) (levels g 0 q) (chain_kept M e q true _ (levels g 0 q) (told.places q i)) marked
    go g c q i marked false z = let plain : Plain g = subst PlainIn c (tables.plain e entered.declared z) in subst (AllMarked after k M e (mem o.taken)) (sym (plain_levels g plain 0 q)) refl

-- An element that was just opened.
pub entered_fresh : {es : List Element} {M begun : List ℕ} {level e : ℕ} → e ≤ length es → Entered es M begun level e 0 (fresh e)
entered_fresh declared =
    record {
      number = refl;
      declared = declared;
      place = omega arith;
      begins = λ {g} {ps} {n} c. begins_none g;
      stands = λ {g} {ps} {n} c. record { last = refl; marked = λ a. absurd (omega arith) };
    }

module _ {s : List ℕ} {es : List Element} {rows places facts M : List ℕ} {e : ℕ} where
  pub fresh_complete : Tables s es rows places facts M → e ≤ length es → complete_at rows e 0 ≡ (decided s es).complete e []
  fresh_complete tables declared = start_complete s es tables.accepted tables.raised rows tables.rows_say e declared

  pub fresh_required : Tables s es rows places facts M → e ≤ length es → required_at rows e 0 ≡ (decided s es).required e []
  fresh_required tables declared = start_required s es tables.accepted tables.raised rows tables.rows_say e declared

  -- What is required is a place or 0, and what can be taken is a place.
  pub entered_required : {begun : List ℕ} {level u : ℕ} {o : Open} → Tables s es rows places facts M → Entered es M begun level e u o → (decided s es).required e o.taken ≤ GRPGTCNT
  entered_required {begun} {level} {u} {o} tables entered = omega (arith, required_most s es tables.accepted e o.taken (λ g ps n c. entered.begins c), width_most s es tables.accepted e)

  pub can_range : {begun : List ℕ} {level u p : ℕ} {o : Open} → Tables s es rows places facts M → Entered es M begun level e u o → CanTake es o p → (1 ≤ p) × (p ≤ GRPGTCNT)
  can_range tables entered can = let x = range tables entered can in omega (arith, (of_model tables entered can).few)
