-- The place as which a token fits: the search along the links of its name gives what the rules decide.
use Rattle.std.specs.Prelude.{ℕ, zero, suc, ◌+◌, ◌*◌, ◌≤◌, ◌<◌, ◌≡◌, Bool, true, false, ◌&&◌, not, ◌⊎◌, List, [], length, get_or, eqb, leb}
use Rattle.std.proofs.Math.Path.{refl, sym, ap}
use Rattle.std.proofs.Common.{◌∙◌, subst, inl, inr, arith, ne_eqb, le-leb}
use Rattle.std.proofs.lemmas.Bool.{false≢true}
use Rattle.std.proofs.Math.Decide.{dec_lt}
use Rattle.rules.specs.Walk.{Group, Begins}
use Rattle.rules.specs.TypeFile.{Place, Content, empty, model, Element}
use Rattle.rules.specs.Elements.{content_of, places_in}
use Rattle.rules.specs.Decisions.{Token, has_name}
use Rattle.rules.specs.Settling.{Open}
use Rattle.rules.specs.Bytes.{GRPGTCNT}
use Rattle.layout.specs.Sizes.{FACT, RAISE}
use Rattle.model_sets.specs.Sets.{has, next_in}
use Rattle.and_laws.specs.Base.{mem}
use Rattle.and_laws.specs.Sets.{Plain}
use Rattle.and_laws.specs.Numbers.{numbered_good}
use Rattle.and_laws.specs.Forced.{first_has}
use Rattle.and_laws.specs.Rows.{follow_to}
use Rattle.and_laws.specs.Levels.{may_in}
use Rattle.and_laws.specs.Taken.{next_from, IsLast, IsTaken, groups_at, next_around, plain_next}
use Rattle.and_laws.specs.Begun.{next_of, begins_none, last_is, is_taken}
use Rattle.member_laws.specs.Members.{Standing}
use Rattle.document_laws.specs.Decide.{search, search_passes, fits_in, decided}
use Rattle.type_laws.specs.Width.{type_file_width}
use Rattle.row_search.specs.Rows.{next_bit, Linked, Largest, LargestRaised, RowSays, BothSay}
use Rattle.row_search.specs.Search.{search_most, search_none, search_both}
use Rattle.type_tables.specs.Tables.{width, name_number, Declares, next_row, Lowered, raised_place, PlainIn, ToldIn, Tables, Entered}
use Rattle.type_tables.specs.Ranges.{Modelled, modelled, width_most}

-- What may come next in a content after the places taken.
abbrev next_after : Content → List ℕ → ℕ → Bool
next_after empty taken p = false
next_after (model g ps n) taken p = next_of g taken p

module _ {s : List ℕ} {es : List Element} {rows places facts M : List ℕ} (tables : Tables s es rows places facts M) (e : ℕ) (declared : e ≤ length es) (taken : List ℕ) (t : Token) (known : Declares es t) where
  abbrev named : ℕ → Bool
  named p = has_name s es (places_in (content_of es e)) t p

  abbrev next : ℕ → Bool
  next p = next_after (content_of es e) taken p

  -- The search begins at the largest place of the name.
  abbrev top : ℕ
  top = search named (width es e)

  top_few : (top ≤ width es e) × (top ≤ GRPGTCNT)
  top_few = omega (arith, search_most named (width es e), width_most s es tables.accepted e)

  fits_search : (decided s es).fits e taken t ≡ search (λ p. named p && next p) top
  unfolding fits_in
  fits_search = go (content_of es e) refl ∙ search_both named next (width es e)
    where
      go : (c : Content) → content_of es e ≡ c → fits_in s es c taken t ≡ search (λ p. has_name s es (places_in c) t p && next_after c taken p) (length (places_in c))
      go empty z = sym (search_none _)
      go (model g ps n) z = ap (search (λ p. has_name s es ps t p && next_of g taken p)) (type_file_width tables.settings.name_length s es tables.accepted.elements e z).0

  linked : Linked places e named top
  linked =
      record {
        last = search_passes named (width es e);
        below = λ q l h z. tables.places_say.smaller e q t declared l (omega (arith, top_few)) known z;
      }

  -- What is found along the links is what the rules decide, where what is said of each place is.
  fits_by : (Says : ℕ → Bool → Type 0) → ((q : ℕ) (b : Bool) → 1 ≤ q → q ≤ top → Says q b → b ≡ next q) → (n r : ℕ) → n ≡ top → Largest Says places e n r → r ≡ (decided s es).fits e taken t
  fits_by Says says n r z found = found.finds named next (subst (Linked places e named) (sym z) linked) (λ q b l h. says q b l (omega arith)) ∙ ap (search (λ p. named p && next p)) z ∙ sym fits_search

  -- The number that is kept

  read_low : (p : ℕ) → p ≡ get_or facts (e * FACT + name_number t) 0 → p ≤ GRPGTCNT → (p ≡ top) × ((tables.raised e ≡ false) ⊎ (top ≡ 0))
  read_low p z l = go top refl (tables.raised e) refl (z ∙ tables.facts_say.largest e t declared known)
    where
      go : (n : ℕ) → top ≡ n → (b : Bool) → tables.raised e ≡ b → p ≡ raised_place b n → (p ≡ top) × ((tables.raised e ≡ false) ⊎ (top ≡ 0))
      go zero x b y w = (omega arith, inr x)
      go (suc n) x true y w = absurd (omega arith)
      go (suc n) x false y w = (omega arith, inl y)

  read_high : (p : ℕ) → p ≡ get_or facts (e * FACT + name_number t) 0 → GRPGTCNT < p → (p ≡ RAISE + top) × (tables.raised e ≡ true)
  read_high p z l = go top refl (tables.raised e) refl (z ∙ tables.facts_say.largest e t declared known)
    where
      go : (n : ℕ) → top ≡ n → (b : Bool) → tables.raised e ≡ b → p ≡ raised_place b n → (p ≡ RAISE + top) × (tables.raised e ≡ true)
      go zero x b y w = absurd (omega arith)
      go (suc n) x true y w = (omega arith, y)
      go (suc n) x false y w = absurd (omega (arith, top_few))

  -- The rows

  row_is : (u q : ℕ) → u ≤ width es e → 1 ≤ q → q ≤ width es e → next_bit rows e u q ≡ next_row (content_of es e) u q
  row_is u q l h k = tables.rows_say.next e u q declared l h (omega (arith, width_most s es tables.accepted e))

  module _ (u : ℕ) (place : u ≤ width es e) (last : (g : Group) (ps : List Place) (n : ℕ) → content_of es e ≡ model g ps n → Begins g taken × IsLast taken u) where
    -- Without "&", or at the start, the row decides.
    row_next : (PlainIn (content_of es e)) ⊎ (u ≡ 0) → (q : ℕ) (b : Bool) → 1 ≤ q → q ≤ width es e → RowSays rows e u q b → b ≡ next q
    row_next plain q b l h z = z ∙ row_is u q place l h ∙ go (content_of es e) refl plain (omega arith)
      where
        from_plain : (g : Group) (ps : List Place) (n : ℕ) → content_of es e ≡ model g ps n → Plain g → next_in g u q ≡ next_of g taken q
        from_plain g ps n c p =
            let (x, y) = last g ps n c in
            let m = modelled s es tables.accepted e c in
            let is = last_is taken u y in
            sym (ap (λ (v : ℕ). next_from g v (mem taken) q) is ∙ plain_next g (numbered_good g 1 m.numbered m.guarded) (mem taken) p u (subst (λ (v : ℕ). IsTaken g v (mem taken)) is (is_taken g m.numbered m.guarded taken x)) q)

        from_start : (g : Group) (ps : List Place) (n : ℕ) → content_of es e ≡ model g ps n → u ≡ 0 → next_in g u q ≡ next_of g taken q
        from_start g ps n c z = ap (λ (v : ℕ). next_in g v q) z ∙ sym (ap (λ (v : ℕ). next_from g v (mem taken) q) (last_is taken u (last g ps n c).1 ∙ z))

        go : (c : Content) → content_of es e ≡ c → (PlainIn c) ⊎ (u ≡ 0) → 1 ≤ q → next_row c u q ≡ next_after c taken q
        go empty y p i = refl
        go (model g ps n) y (inl p) i = from_plain g ps n y p
        go (model g ps n) y (inr z) i = from_start g ps n y z

    -- With "&" the row and what has begun decide.
    both_next : (begun : List ℕ) (level : ℕ) → ToldIn M e (content_of es e) → ((g : Group) (ps : List Place) (n : ℕ) → content_of es e ≡ model g ps n → Standing begun level M e g u taken) → (q : ℕ) (b : Bool) → 1 ≤ q → q ≤ width es e → BothSay rows M begun level e u q b → b ≡ next q
    both_next begun level told stands q b l h say = go (content_of es e) refl told say (row_is u q place l h)
      where
        go : (c : Content) → content_of es e ≡ c → ToldIn M e c → BothSay rows M begun level e u q b → next_bit rows e u q ≡ next_row c u q → b ≡ next_after c taken q
        go empty y d (inl (v, w)) r = w
        go empty y d (inr (v, w)) r = absurd (false≢true (sym r ∙ v))
        go (model g ps n) y d say r = by say (last g ps n y) (modelled s es tables.accepted e y)
          where
            module_next : Begins g taken × IsLast taken u → Modelled es e g → (IsTaken g u (mem taken)) × (next_of g taken q ≡ next_in g u q && may_in (groups_at g u) u (mem taken) q)
            module_next (x, z) m =
                let is = last_is taken u z in
                let i : IsTaken g u (mem taken) = subst (λ (v : ℕ). IsTaken g v (mem taken)) is (is_taken g m.numbered m.guarded taken x) in
                (i, ap (λ (v : ℕ). next_from g v (mem taken) q) is ∙ next_around g (numbered_good g 1 m.numbered m.guarded) (mem taken) u i q)

            has_last : (u : ℕ) → IsTaken g u (mem taken) → 1 ≤ u → has g u ≡ true
            has_last zero i k = absurd (omega arith)
            has_last (suc u) i k = i.0

            has_next : (u : ℕ) → next_in g u q ≡ true → has g q ≡ true
            has_next zero i = first_has g q i
            has_next (suc u) i = follow_to g (suc u) q i

            by : BothSay rows M begun level e u q b → Begins g taken × IsLast taken u → Modelled es e g → b ≡ next_of g taken q
            by (inl (v, w)) x m = w ∙ sym ((module_next x m).1 ∙ ap (λ (z : Bool). z && may_in (groups_at g u) u (mem taken) q) (sym r ∙ v))
            by (inr (v, f)) x m =
                let (i, z) = module_next x m in
                f g m.numbered m.guarded d taken (stands g ps n y) (has_last u i) (has_next u (sym r ∙ v)) ∙ sym (z ∙ ap (λ (z : Bool). z && may_in (groups_at g u) u (mem taken) q) (sym r ∙ v))

-- Of an open element it says the same.
module _ {s : List ℕ} {es : List Element} {rows places facts M begun : List ℕ} {level e u : ℕ} {o : Open} (tables : Tables s es rows places facts M) (entered : Entered es M begun level e u o) (t : Token) (known : Declares es t) (x p r : ℕ) (name : name_number t ≡ x) (read : p ≡ get_or facts (e * FACT + x) 0) where
  begun_with : (g : Group) (ps : List Place) (n : ℕ) → content_of es e ≡ model g ps n → Begins g o.taken × IsLast o.taken u
  begun_with g ps n c = (entered.begins c, (entered.stands c).last)

  read_name : p ≡ get_or facts (e * FACT + name_number t) 0
  read_name = read ∙ ap (λ (y : ℕ). get_or facts (e * FACT + y) 0) (sym name)

  pub fits_low : p ≤ GRPGTCNT → Largest (RowSays rows e u) places e p r → r ≡ (decided s es).fits e o.taken t
  fits_low l found =
      let (z, way) = read_low tables e entered.declared o.taken t known p read_name l in
      fits_by tables e entered.declared o.taken t known (RowSays rows e u) (says way) p r z found
    where
      says : (tables.raised e ≡ false) ⊎ (top tables e entered.declared o.taken t known ≡ 0) → (q : ℕ) (b : Bool) → 1 ≤ q → q ≤ top tables e entered.declared o.taken t known → RowSays rows e u q b → b ≡ next tables e entered.declared o.taken t known q
      says (inl y) q b k h = row_next tables e entered.declared o.taken t known u entered.place begun_with (inl (tables.plain e entered.declared y)) q b k (omega (arith, top_few tables e entered.declared o.taken t known))
      says (inr y) q b k h = absurd (omega arith)

  pub fits_high : GRPGTCNT < p → LargestRaised (BothSay rows M begun level e u) places e p r → r ≡ (decided s es).fits e o.taken t
  fits_high l found =
      let (z, y) = read_high tables e entered.declared o.taken t known p read_name l in
      fits_by tables e entered.declared o.taken t known (BothSay rows M begun level e u)
      (λ q b k h. both_next tables e entered.declared o.taken t known u entered.place begun_with begun level (tables.told e entered.declared y) (λ g ps n c. entered.stands c) q b k (omega (arith, top_few tables e entered.declared o.taken t known)))
      (top tables e entered.declared o.taken t known) r refl (found.finds _ z (omega (arith, top_few tables e entered.declared o.taken t known)))

-- The start of an element: nothing has begun there, so the row decides.
pub fits_start : {s : List ℕ} {es : List Element} {rows places facts M : List ℕ} (tables : Tables s es rows places facts M) (e : ℕ) (declared : e ≤ length es) (t : Token) (known : Declares es t) (x p q r : ℕ) → name_number t ≡ x → p ≡ get_or facts (e * FACT + x) 0 → Lowered p q → Largest (RowSays rows e 0) places e q r → r ≡ (decided s es).fits e [] t
fits_start {s} {es} {rows} {places} {facts} {M} tables e declared t known x p q r name read lowered found =
    fits_by tables e declared [] t known (RowSays rows e 0)
    (λ q b k h. row_next tables e declared [] t known 0 (omega arith) (λ g ps n c. (begins_none g, refl)) (inr refl) q b k (omega (arith, top_few tables e declared [] t known)))
    q r (go (dec_lt GRPGTCNT p)) found
  where
    at : p ≡ get_or facts (e * FACT + name_number t) 0
    at = read ∙ ap (λ (y : ℕ). get_or facts (e * FACT + y) 0) (sym name)

    go : Dec (GRPGTCNT < p) → q ≡ top tables e declared [] t known
    go (yes l) = let (z, y) = read_high tables e declared [] t known p at l in lowered.high _ z (omega (arith, top_few tables e declared [] t known))
    go (no l) = let (z, y) = read_low tables e declared [] t known p at (omega arith) in lowered.low (omega arith) ∙ z

-- A place was found, or not.
pub some_found : (q : ℕ) → not (eqb q 0) ≡ leb 1 q
some_found zero = refl
some_found (suc q) = ap not (ne_eqb (suc q) 0 (λ z. omega arith)) ∙ sym (le-leb 1 (suc q) (omega arith))

-- Data is the name 0.
pub read_data : (facts : List ℕ) (e p : ℕ) → p ≡ get_or facts (e * FACT) 0 → p ≡ get_or facts (e * FACT + 0) 0
read_data facts e p z = let d : e * FACT ≡ e * FACT + 0 = omega arith in z ∙ ap (λ (i : ℕ). get_or facts i 0) d
