-- The element whose start is to be inferred, from what the tables say: the required place, what it names, and what is declared of that.
use Rattle.std.specs.Prelude.{ℕ, ◌+◌, ◌-◌, ◌*◌, ◌≤◌, ◌<◌, ◌≡◌, refl, Bool, true, false, ◌&&◌, List, length, get_or, eqb, leb}
use Rattle.std.proofs.Common.{sym, ◌∙◌, ap, arith, eqb-true, le-leb}
use Rattle.std.proofs.Math.Bool.{and-false}
use Rattle.rules.specs.TypeFile.{Place, Element}
use Rattle.rules.specs.Judge.{place_at}
use Rattle.rules.specs.Elements.{content_of, places_in, has_model, start_o}
use Rattle.rules.specs.Decisions.{start}
use Rattle.rules.specs.Settling.{Open, element_of, required_place, inferable}
use Rattle.rules.specs.Bytes.{GRPGTCNT, element_limit}
use Rattle.layout.specs.Sizes.{POSITIONS, PCDATA, LINK}
use Rattle.basic_laws.specs.Truth.{bool_cases}
use Rattle.document_laws.specs.Decide.{decided}
use Rattle.type_laws.specs.Names.{number_of_range, number_of_pcdata}
use Rattle.type_tables.specs.Tables.{width, Declares, named_by, Tables, Entered}
use Rattle.type_tables.specs.Ranges.{width_most, required_most}

-- The number k where the test holds, else 0.
abbrev number_if : Bool → ℕ → ℕ
number_if test k = elim test [ true ↦ k | false ↦ 0 ]

number_if_zero : (test : Bool) (k : ℕ) → k ≡ 0 → number_if test k ≡ 0
number_if_zero true k z = z
number_if_zero false k z = refl

-- Whether the start of the element k may be inferred where the place p is required.
abbrev may : List Element → (p k : ℕ) → Bool
may es p k = leb 1 p && (leb 1 k && (start_o es k && has_model (content_of es k)))

-- An open element by its number and the places taken.
abbrev pub opened : ℕ → List ℕ → Open
opened e taken = record { element = e; taken = taken }

-- The place p is required in the element number e after these places.
pub record Requires (s : List ℕ) (es : List Element) (e p : ℕ) (taken : List ℕ) : Type 0 where
  pub declared : e ≤ length es
  pub within : p ≤ width es e
  pub required : p ≡ required_place s es (decided s es) (opened e taken)

-- So it is for every open element that the entry stands for.
pub infers_by : (places facts : List ℕ) (e p r : ℕ) → ((s : List ℕ) (es : List Element) (rows M taken : List ℕ) → Tables s es rows places facts M → Requires s es e p taken → r ≡ inferable s es (decided s es) (opened e taken)) →
    (s : List ℕ) (es : List Element) (rows M : List ℕ) → Tables s es rows places facts M → (o : Open) (begun : List ℕ) (level u : ℕ) → Entered es M begun level e u o → p ≡ required_place s es (decided s es) o → r ≡ inferable s es (decided s es) o
infers_by places facts e p r f s es rows M tables o begun level u entered required =
    let is : o ≡ opened e o.taken = λ i. record { element = entered.number i; taken = o.taken } in
    let needs : p ≡ required_place s es (decided s es) (opened e o.taken) = required ∙ ap (required_place s es (decided s es)) is in
    f s es rows M o.taken tables (record { declared = entered.declared; within = omega (arith, needs, required_most s es tables.accepted e o.taken (λ g ps n c. entered.begins c)); required = needs }) ∙ ap (inferable s es (decided s es)) (sym is)

module _ (rows places facts M : List ℕ) (e p : ℕ) (s : List ℕ) (es : List Element) (taken : List ℕ) (tables : Tables s es rows places facts M) (requires : Requires s es e p taken) where
  -- The element that the required place names.
  abbrev named : ℕ
  named = element_of s es (opened e taken) p

  inferred : inferable s es (decided s es) (opened e taken) ≡ number_if (may es p named) named
  unfolding inferable
  inferred = rw requires.required

  -- No type requires so large a place.
  pub large_required : GRPGTCNT < p → 0 ≡ inferable s es (decided s es) (opened e taken)
  large_required l = absurd (omega (arith, requires.within, width_most s es tables.accepted e))

  pub none_required : p ≡ 0 → 0 ≡ inferable s es (decided s es) (opened e taken)
  none_required z = sym (inferred ∙ let x : leb 1 p ≡ false = rw z in rw x)

  none_named : named ≡ 0 → 0 ≡ inferable s es (decided s es) (opened e taken)
  none_named z = sym (inferred ∙ number_if_zero (may es p named) named z)

  -- The number k is kept of what the place names.
  module _ (some : p ≡ 0 → ⊥) (k : ℕ) (read : k ≡ get_or places ((e * POSITIONS + p) * LINK) 0) where
    abbrev stands : Place
    stands = place_at (places_in (content_of es e)) (p - 1)

    said : k ≡ named_by s es (places_in (content_of es e)) p
    said = read ∙ tables.places_say.named e p requires.declared (omega arith) requires.within

    named_range : named ≤ length es
    named_range = number_of_range s es s stands.at stands.size

    -- A number above 64 is no element's: the place is `#PCDATA`.
    pub data_required : element_limit < k → 0 ≡ inferable s es (decided s es) (opened e taken)
    data_required z = none_named (bool_cases (eqb stands.size 0) nameless other)
      where
        nameless : eqb stands.size 0 ≡ true → named ≡ 0
        nameless x = rw (eqb-true stands.size 0 x) (number_of_pcdata tables.settings.name_length s es tables.accepted.elements s stands.at)

        other : eqb stands.size 0 ≡ false → named ≡ 0
        other x = let y : k ≡ named = rw x at said in absurd (omega (arith, named_range, tables.few))

    element_named : k ≤ element_limit → named ≡ k
    element_named l = bool_cases (eqb stands.size 0) (λ x. absurd (let y : k ≡ PCDATA = rw x at said in omega arith)) (λ x. sym (rw x at said))

    pub none_declared : k ≡ 0 → 0 ≡ inferable s es (decided s es) (opened e taken)
    none_declared z = none_named (element_named (omega arith) ∙ z)

-- The place p names the element k.
pub record Names (places : List ℕ) (e p k : ℕ) : Type 0 where
  pub some : p ≡ 0 → ⊥
  pub read : k ≡ get_or places ((e * POSITIONS + p) * LINK) 0
  pub declared : k ≡ 0 → ⊥
  pub element : k ≤ element_limit

module _ (rows places facts M : List ℕ) (e p k : ℕ) (names : Names places e p k) (s : List ℕ) (es : List Element) (taken : List ℕ) (tables : Tables s es rows places facts M) (requires : Requires s es e p taken) where
  is_named_lem : element_of s es (opened e taken) p ≡ k
  is_named_lem = element_named rows places facts M e p s es taken tables requires names.some k names.read names.element

  pub declares : Declares es (start k)
  declares =
      let x : Place = place_at (places_in (content_of es e)) (p - 1) in
      (omega (arith, names.declared), omega (arith, is_named_lem, number_of_range s es s x.at x.size))

  is_inferred : inferable s es (decided s es) (opened e taken) ≡ number_if (may es p k) k
  is_inferred = rw (← is_named_lem) (inferred rows places facts M e p s es taken tables requires)

  pub start_kept : start_o es k ≡ false → 0 ≡ inferable s es (decided s es) (opened e taken)
  start_kept x = sym (is_inferred ∙ rw (x, and-false, and-false))

  pub no_model : has_model (content_of es k) ≡ false → 0 ≡ inferable s es (decided s es) (opened e taken)
  no_model x = sym (is_inferred ∙ rw (x, and-false, and-false, and-false))

  pub infers : start_o es k ≡ true → has_model (content_of es k) ≡ true → k ≡ inferable s es (decided s es) (opened e taken)
  infers x y = sym (is_inferred ∙ rw (le-leb 1 p (omega (arith, names.some)), le-leb 1 k (omega (arith, names.declared)), x, y))
