-- Laws of the rules' declarations: each way that reading of one goes.
use Rattle.std.specs.Prelude.{ℕ, ◌+◌, ◌-◌, ◌≤◌, ◌<◌, ◌≡◌, refl, true, false, List, length, Result, Ok, Err}
use Rattle.std.proofs.Common.{sym, ap, ◌∙◌, true≢false, arith}
use Rattle.std.proofs.Math.Decide.{ℕ_discrete}
use borrow.Author.Tests.{ne_eqb, lt-ltb, le-ltb}
use Rattle.rules.specs.Bytes.{byte_at, letter, name_end, DSO, EXCLAMATION, MDC, MINUS, OPT, PERO, STAGO}
use Rattle.rules.specs.Reading.{Reading, refused, got, and_then}
use Rattle.rules.specs.Attributes.{AttList}
use Rattle.rules.specs.TypeFile.{Element, Declared, Declarations, at_dashes, is_word, ELEMENT, ATTLIST, comment_declaration, element, attribute_list, keyword, markup, declaration}
use Rattle.text.specs.Refusal.{refusal_of}
use Rattle.text.specs.Words.{comment_range, is_word_other}
use Rattle.text.specs.declared.Fault.{Fault}
use Rattle.element_records.specs.declared.Progress.{Progress}
use Rattle.element_records.specs.Progress.{KeepsProgress, MeetsStep}
use Rattle.attribute_lists.specs.Listed.{Headed, ListsAs, MeetsLists}
use Rattle.type_file.specs.File.{MeetsDeclarations}

-- A step that was refused, that goes on with the same elements and lists, and that read an element further on.
module _ (long : ℕ) (s elements heads : List ℕ) where
  pub step_refused : (from n k : ℕ) (x : Reading Declarations) (f : Fault) → x ≡ refused n k → f ≡ record { number = n; at = k } → MeetsDeclarations long s elements heads from (Err f) x
  step_refused from n k x f e q = rw (e, q) (refl, refl)

  pub step_onward : (from j : ℕ) (p : Progress) (es : List Element) (ls : List AttList) (x : Reading Declarations) (q : Progress) → KeepsProgress s elements p es → Headed long s heads ls
      → x ≡ got (record { elements = es; lists = ls; at = j }) → q ≡ record p { at = j } → from < j → j ≤ length s → MeetsDeclarations long s elements heads from (Ok q) x
  step_onward from j p es ls x q k h e w f l =
      rw (e, w) (record { counted = k.counted; room = k.room; recorded = k.recorded; at_in = l; repeated_at = k.repeated_at; pending = k.pending }, h, refl, f)

  pub step_element : (from to : ℕ) (ls : List AttList) → from ≤ to → Headed long s heads ls → (r : Result Progress Fault) (x : Reading Declared) → MeetsStep s elements to r x
      → MeetsDeclarations long s elements heads from r (and_then x λ d. got (record { elements = d.elements; lists = ls; at = d.at }))
  step_element from to ls l h (Ok p) (got d) m = (m.0, h, m.1, omega (arith, m.2))
  step_element from to ls l h (Ok p) (refused n k) m = m
  step_element from to ls l h (Err f) (got d) m = m
  step_element from to ls l h (Err f) (refused n k) m = m

  -- An attribute list that was refused, or read.
  pub list_refused : (from : ℕ) (es : List Element) (x : Reading Declarations) (f : Fault) (z : Result Progress Fault) → MeetsLists long s heads es (Err f) x → z ≡ Err f → MeetsDeclarations long s elements heads from z x
  list_refused from es x f z e q = rw (q, e) (refl, refl)

  pub list_onward : (from j : ℕ) (p : Progress) (es : List Element) (x : Reading Declarations) (q : Progress) → MeetsLists long s heads es (Ok j) x → KeepsProgress s elements p es → q ≡ record p { at = j } → from < j → j ≤ length s
      → MeetsDeclarations long s elements heads from (Ok q) x
  list_onward from j p es x q a k w f l = step_onward from j p es a.lists x q k a.headed a.read w f l

-- Keywords, the one at i ending at e.
module _ (long : ℕ) (s : List ℕ) (i e : ℕ) (es : List Element) (ls : List AttList) (ends : e ≡ name_end s (i + 2)) where
  pub keyword_long : long < e - (i + 2) → keyword long s i es ls ≡ refused 3 (i + 2)
  unfolding keyword
  keyword_long h = rw (lt-ltb _ _ (rw ends at h), keyword)

  module _ (h : e - (i + 2) ≤ long) where
    pub keyword_element : is_word s (i + 2) e ELEMENT ≡ true → keyword long s i es ls ≡ and_then (element long s e es) λ d. got (record { elements = d.elements; lists = ls; at = d.at })
    unfolding keyword
    keyword_element w = rw (ends, le-ltb _ _ (rw ends at h), rw ends at w, keyword)

    module _ (w : is_word s (i + 2) e ELEMENT ≡ false) where
      pub keyword_list : is_word s (i + 2) e ATTLIST ≡ true → keyword long s i es ls ≡ attribute_list long s e es ls
      unfolding keyword
      keyword_list v = rw (ends, le-ltb _ _ (rw ends at h), rw ends at w, rw ends at v, keyword)

      pub keyword_other : is_word s (i + 2) e ATTLIST ≡ false → keyword long s i es ls ≡ refused 5 i
      unfolding keyword
      keyword_other v = rw (le-ltb _ _ (rw ends at h), rw ends at w, rw ends at v, keyword)

-- A keyword that is ATTLIST ends seven bytes further on.
pub list_word : (s : List ℕ) (i e : ℕ) → is_word s i e ATTLIST ≡ true → i + 7 ≤ e
list_word s i e w = by_size (ℕ_discrete (e - i) 7)
  where
    by_size : Dec (e - i ≡ 7) → i + 7 ≤ e
    by_size (yes z) = omega (arith, z)
    by_size (no z) = absurd (true≢false (sym w ∙ is_word_other s i e ATTLIST z))

-- What stands behind `<!`, where the byte b follows.
module _ (long : ℕ) (s : List ℕ) (i b : ℕ) (es : List Element) (ls : List AttList) (read : b ≡ byte_at s (i + 2)) where
  pub markup_none : b ≡ MDC → markup long s i es ls ≡ got (record { elements = es; lists = ls; at = i + 3 })
  unfolding markup
  markup_none q = rw (rw read at q, markup)

  module _ (d : ℕ) (then : d ≡ byte_at s (i + 3)) (q : b ≡ MINUS) where
    pub markup_dash : (d ≡ MINUS → ⊥) → markup long s i es ls ≡ refused 4 (i + 3)
    unfolding markup
    markup_dash o =
        let m = rw read at q in
        rw (m, m, ne_eqb _ _ (rw then at o), markup)

    pub markup_comment : (x : Reading ℕ) → d ≡ MINUS → x ≡ comment_declaration s (i + 2) → markup long s i es ls ≡ and_then x (λ j. got (record { elements = es; lists = ls; at = j }))
    unfolding markup
    markup_comment x o w =
        let m = rw read at q in
        rw (m, m, rw then at o, ← w, markup)

  pub markup_section : b ≡ DSO → markup long s i es ls ≡ refused 5 i
  unfolding markup
  markup_section q =
      let m = rw read at q in
      rw (m, m, m, markup)

  module _ (none : b ≡ MDC → ⊥) (dash : b ≡ MINUS → ⊥) (section : b ≡ DSO → ⊥) where
    pub markup_keyword : letter b ≡ true → markup long s i es ls ≡ keyword long s i es ls
    unfolding markup
    markup_keyword l = rw (ne_eqb _ _ (rw read at none), ne_eqb _ _ (rw read at dash), ne_eqb _ _ (rw read at section), rw read at l, markup)

    pub markup_other : letter b ≡ false → markup long s i es ls ≡ refused 4 (i + 2)
    unfolding markup
    markup_other l = rw (ne_eqb _ _ (rw read at none), ne_eqb _ _ (rw read at dash), ne_eqb _ _ (rw read at section), rw read at l, markup)

-- A comment declaration, from its first `--` to its end.
pub comment_opens : (s : List ℕ) (i : ℕ) → byte_at s (i + 2) ≡ MINUS → byte_at s (i + 3) ≡ MINUS → at_dashes s (i + 2) ≡ true
comment_opens s i b d =
    let n : i + 2 + 1 ≡ i + 3 = omega arith in
    rw (b, n, d)

module _ (long : ℕ) (s elements heads : List ℕ) (i : ℕ) (es : List Element) (ls : List AttList) (y : Reading ℕ) (x : Reading Declarations)
    (read : x ≡ and_then y (λ j. got (record { elements = es; lists = ls; at = j }))) where
  pub comment_refused : (f : Fault) (z : Result Progress Fault) → refusal_of f ≡ y → z ≡ Err f → MeetsDeclarations long s elements heads i z x
  comment_refused f z e q = rw (read, ← e, q) (refl, refl)

  pub comment_onward : (j : ℕ) (p : Progress) (q : Progress) → at_dashes s (i + 2) ≡ true → got j ≡ y → y ≡ comment_declaration s (i + 2) → KeepsProgress s elements p es → Headed long s heads ls
      → q ≡ record p { at = j } → MeetsDeclarations long s elements heads i (Ok q) x
  comment_onward j p q d e m k h w =
      let l = comment_range s (i + 2) d j (sym m ∙ sym e) in
      step_onward long s elements heads i j p es ls x q k h (read ∙ rw (sym e)) w (omega arith) l.1

-- What stands at i, where a declaration may begin: the byte b.
module _ (long : ℕ) (s : List ℕ) (i b : ℕ) (es : List Element) (ls : List AttList) (read : b ≡ byte_at s i) where
  module _ (d : ℕ) (then : d ≡ byte_at s (i + 1)) (q : b ≡ STAGO) where
    pub declaration_markup : d ≡ EXCLAMATION → declaration long s i es ls ≡ markup long s i es ls
    unfolding declaration
    declaration_markup o = rw (rw read at q, rw then at o, declaration)

    pub declaration_instruction : d ≡ OPT → declaration long s i es ls ≡ refused 5 i
    unfolding declaration
    declaration_instruction o =
        let m = rw then at o in
        rw (rw read at q, m, m, declaration)

    pub declaration_tag : (d ≡ EXCLAMATION → ⊥) → (d ≡ OPT → ⊥) → declaration long s i es ls ≡ refused 4 (i + 1)
    unfolding declaration
    declaration_tag m o = rw (rw read at q, ne_eqb _ _ (rw then at m), ne_eqb _ _ (rw then at o), declaration)

  pub declaration_reference : b ≡ PERO → declaration long s i es ls ≡ refused 5 i
  unfolding declaration
  declaration_reference q =
      let m = rw read at q in
      rw (m, m, declaration)

  pub declaration_other : (b ≡ STAGO → ⊥) → (b ≡ PERO → ⊥) → declaration long s i es ls ≡ refused 4 i
  unfolding declaration
  declaration_other m o = rw (ne_eqb _ _ (rw read at m), ne_eqb _ _ (rw read at o), declaration)
