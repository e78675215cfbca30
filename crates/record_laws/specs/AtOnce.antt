-- Wherever reading comes to, the line says of a byte 13 that would be data whether it is ignored by what stands before it in its element: first, or after
-- markup. This holds in both editions.
use Rattle.std.specs.Prelude.{ℕ, ◌+◌, ◌-◌, ◌≤◌, ◌<◌, ◌≡◌, true, false, not, ◌&&◌, ◌||◌, ◌↔◌, ◌⊎◌, List, [], ◌∷◌, ◌++◌, eqb, leb, ltb}
use Rattle.std.proofs.Common.{arith, sym, ◌∙◌, ap, subst, inl, inr, lt-ltb, le-ltb, le-leb, eq-eqb, ne_eqb}
use Rattle.std.proofs.Math.Path.{refl}
use Rattle.std.proofs.Math.Bool.{and-false, or-true}
use Rattle.rules.specs.Settings.{Settings}
use Rattle.rules.specs.Bytes.{byte_at, RE, MDC}
use Rattle.rules.specs.TypeFile.{Element}
use Rattle.rules.specs.Decisions.{pcdata, Decisions}
use Rattle.rules.specs.Settling.{Open, State, nothing_open, fitting, take_place}
use Rattle.rules.specs.Records.{Line, new_line, is_fresh, at_once}
use Rattle.rules.specs.RecordEnds.{Thing, markup, boundary, record_end, datum, subelement, Contents, no_contents, over_in, TakesNoPlace, Fills}
use Rattle.record_laws.specs.Marks.{is_once, Mark, fresh, directly, markup_since, other, marked, drops_now, mark_of, marks_snoc, mark_decides}
use Rattle.record_laws.specs.Cases.{once_means}
use Rattle.record_laws.specs.Moves.{Step, opens, passes, closes, Moves, moves_keep, data_taken}
use Rattle.record_laws.specs.Turns.{Turn, tags, markups, tens, dropped, ignored, takes, bytes, fills_keep}

-- Open elements

abbrev EndsInOne : List Thing → Type 0
EndsInOne c = (b : List Thing) × (c ≡ b ++ subelement ∷ [])

-- Each element around the current one has taken a place, and the last thing that came in it is a subelement: what stands inside it.
abbrev pub Parents : List Open → List (List Thing) → Type 0
Parents [] [] = Unit {0}
Parents [] (c ∷ cs) = ⊥
Parents (u ∷ us) [] = ⊥
Parents (u ∷ us) (c ∷ cs) = (is_fresh u ≡ false) × EndsInOne c × Parents us cs

-- Behind a tag: an element has just begun, or a subelement was the last thing in it.
abbrev Newly : Open → List Thing → Type 0
Newly o c = ((c ≡ []) × (is_fresh o ≡ true)) ⊎ ((is_fresh o ≡ false) × EndsInOne c)

snoc_taken : (ps : List ℕ) (p n : ℕ) → is_fresh (record { element = n; taken = ps ++ p ∷ [] }) ≡ false
snoc_taken [] p n = refl
snoc_taken (q ∷ ps) p n = refl

place_taken_lem : (p : ℕ) (z : State) → is_fresh (take_place p z).current ≡ false
place_taken_lem p z = snoc_taken z.current.taken p z.current.element

closed : (u : Open) (us : List Open) (around : List (List Thing)) (c : List Thing) (ended : List (List Thing)) → Parents (u ∷ us) around → Newly u (over_in around c ended).current × Parents us (over_in around c ended).around
closed u us [] c ended h = absurd h
closed u us (x ∷ around) c ended (f, e, h) = (inr (f, e), h)

step_newly : {z y : State} {k j : Contents} → Step z k y j → Parents z.around k.around → Newly y.current j.current × Parents y.around j.around
step_newly {z} {k = k} (opens p n e b) h = (inl (refl, refl), (place_taken_lem p z, (k.current, refl), h))
step_newly {z} {k = k} (passes p e f b v) h = (inr (place_taken_lem p z, (k.current, refl)), h)
step_newly {z} {k = k} (closes u us e q c) h = closed u us k.around k.current k.ended (subst (λ (os : List Open). Parents os k.around) q h)

abbrev pub Rooted : State → Contents → Type 0
Rooted z k = Parents z.around k.around

pub moves_rooted : {z y : State} {k j : Contents} → Moves z k y j → Rooted z k → Rooted y j
moves_rooted m h = moves_keep Rooted (λ z y k j t r. (step_newly t r).1) m h

-- The line

-- What the line says where the mark behind what came is m.
abbrev Says : (d : List ℕ) (at : ℕ) → Line → Open → Mark → Type 0
Says d at l o fresh = (l.mark ≤ l.since) × (is_fresh o ≡ true)
Says d at l o directly = ((l.since < l.mark) × (l.mark ≡ at)) ⊎ ((l.mark ≤ l.since) × (l.since ≡ at) × (is_fresh o ≡ false) × (byte_at d (l.since - 1) ≡ RE))
Says d at l o markup_since = ((l.since < l.mark) × (l.mark < at)) ⊎ ((l.mark ≤ l.since) × (l.since < at) × (byte_at d (l.since - 1) ≡ RE))
Says d at l o other = (l.mark ≤ l.since) × (is_fresh o ≡ false) × (¬ (byte_at d (l.since - 1) ≡ RE))

not_same : (a b : ℕ) → ¬ (a ≡ b) → not (eqb a b) ≡ true
not_same a b h = ap not (ne_eqb a b h)

same_not : (a b : ℕ) → a ≡ b → not (eqb a b) ≡ false
same_not a b h = ap not (eq-eqb a b h)

module _ (d : List ℕ) (at : ℕ) (l : Line) (o : Open) where
  -- The two ways of the test.
  once_record : l.since < l.mark → at_once d at l o ≡ not (eqb l.mark at)
  unfolding at_once
  once_record h = rw (lt-ltb l.since l.mark h, at_once) refl

  once_other : l.mark ≤ l.since → at_once d at l o ≡ (is_fresh o || (ltb l.since at && eqb (byte_at d (l.since - 1)) RE))
  unfolding at_once
  once_other h = rw (le-ltb l.since l.mark h, at_once) refl

  says_decides : (m : Mark) → Says d at l o m → at_once d at l o ≡ drops_now m
  says_decides fresh (p, f) = once_other p ∙ ap (λ x. x || (ltb l.since at && eqb (byte_at d (l.since - 1)) RE)) f
  says_decides directly (inl (p, e)) = once_record p ∙ same_not l.mark at e
  says_decides directly (inr (p, e, f, b)) =
      once_other p
      ∙ ap (λ x. x || (ltb l.since at && eqb (byte_at d (l.since - 1)) RE)) f
      ∙ ap (λ x. x && eqb (byte_at d (l.since - 1)) RE) (le-ltb l.since at (omega arith))
  says_decides markup_since (inl (p, e)) = once_record p ∙ not_same l.mark at (λ q. omega arith)
  says_decides markup_since (inr (p, e, b)) =
      once_other p
      ∙ ap (λ x. is_fresh o || (x && eqb (byte_at d (l.since - 1)) RE)) (lt-ltb l.since at e)
      ∙ ap (λ x. is_fresh o || x) (eq-eqb (byte_at d (l.since - 1)) RE b)
      ∙ or-true (is_fresh o)
  says_decides other (p, f, b) =
      once_other p
      ∙ ap (λ x. x || (ltb l.since at && eqb (byte_at d (l.since - 1)) RE)) f
      ∙ ap (λ x. ltb l.since at && x) (ne_eqb (byte_at d (l.since - 1)) RE b)
      ∙ and-false (ltb l.since at)

-- Wherever reading comes to: where `#PCDATA` may come next the line says what the mark says.
pub record Lined (s : List ℕ) (es : List Element) (D : Decisions) (d : List ℕ) (at : ℕ) (l : Line) (z : State) (k : Contents) : Type 0 where
  pub since_at : l.since ≤ at
  pub mark_at : l.mark ≤ at
  pub rooted : Rooted z k
  pub says : leb 1 (fitting s es D z.current pcdata) ≡ true → Says d at l z.current (mark_of k.current)

-- One thing more behind c.
says_snoc : (d : List ℕ) (at : ℕ) (l : Line) (o : Open) (c : List Thing) (t : Thing) → Says d at l o (marked (mark_of c) t) → Says d at l o (mark_of (c ++ t ∷ []))
says_snoc d at l o c t h = subst (λ (m : Mark). Says d at l o m) (sym (marks_snoc fresh c t)) h

says_markup_lem : (d : List ℕ) (at i : ℕ) (l : Line) (o : Open) (m : Mark) → at < i → Says d at l o m → Says d i l o (marked m markup)
says_markup_lem d at i l o fresh h s = s
says_markup_lem d at i l o directly h (inl (p, q)) = inl (p, omega arith)
says_markup_lem d at i l o directly h (inr (p, q, f, b)) = inr (p, omega arith, b)
says_markup_lem d at i l o markup_since h (inl (p, q)) = inl (p, omega arith)
says_markup_lem d at i l o markup_since h (inr (p, q, b)) = inr (p, omega arith, b)
says_markup_lem d at i l o other h s = s

-- Behind a tag, which ends in ">".
says_newly : (d : List ℕ) (i : ℕ) (l : Line) (o : Open) (c : List Thing) → l.mark ≤ l.since → byte_at d (l.since - 1) ≡ MDC → Newly o c → Says d i l o (mark_of c)
says_newly d i l o c h b (inl (e, f)) = subst (λ (x : List Thing). Says d i l o (mark_of x)) (sym e) (h, f)
says_newly d i l o c h b (inr (f, (x, e))) = subst (λ (y : List Thing). Says d i l o (mark_of y)) (sym e) (says_snoc d i l o x subelement (h, f, λ q. omega arith))

last_byte : (d : List ℕ) (at b : ℕ) → byte_at d at ≡ b → byte_at d (at + 1 - 1) ≡ b
last_byte d at b e = ap (byte_at d) (let q : at + 1 - 1 ≡ at = omega arith in q) ∙ e

module _ (c : Settings) (s : List ℕ) (es : List Element) (D : Decisions) (d : List ℕ) where
  pub turn_lined : (at i : ℕ) (l m : Line) (z y : State) (k j : Contents) → Turn c s es D d at l z k i m y j → Lined s es D d at l z k → Lined s es D d i m y j
  turn_lined at i l m z y k j (tags after t a h b) w =
      let v = step_newly t.last (moves_rooted t.moves w.rooted) in
      record { since_at = omega arith; mark_at = omega (arith, w.mark_at); rooted = v.1; says = λ f. says_newly d after (record { since = after; mark = l.mark }) y.current j.current (omega (arith, w.mark_at)) b v.0 }
  turn_lined at i l m z y k j (markups after a h) w =
      record {
        since_at = omega (arith, w.since_at);
        mark_at = omega (arith, w.mark_at);
        rooted = w.rooted;
        says = λ f. says_snoc d after l z.current k.current markup (says_markup_lem d at after l z.current (mark_of k.current) h (w.says f));
      }
  turn_lined at i l m z y k j (tens b) w =
      record {
        since_at = omega (arith, w.since_at);
        mark_at = omega arith;
        rooted = w.rooted;
        says = λ f. says_snoc d (at + 1) (record { since = l.since; mark = at + 1 }) z.current k.current boundary (inl (omega (arith, w.since_at), refl));
      }
  turn_lined at i l m z y k j (dropped b f o) w =
      record {
        since_at = omega (arith, w.since_at);
        mark_at = omega arith;
        rooted = w.rooted;
        says = λ g. says_snoc d (at + 1) (record { since = l.since; mark = at + 1 }) z.current k.current (record_end at) (inl (omega (arith, w.since_at), refl));
      }
  turn_lined at i l m z y k j (ignored f n q x r) w =
      record {
        since_at = omega (arith, w.since_at);
        mark_at = behind q;
        rooted = stays r;
        says = λ g. absurd (let z : ◌≡◌ {A = ℕ} 0 1 = cc in omega arith);
      }
    where
      behind : (n ≡ at + 1) ⊎ (n ≡ l.mark) → n ≤ at + 1
      behind (inl e) = omega arith
      behind (inr e) = omega (arith, w.mark_at)

      stays : ◌⊎◌ (◌≡◌ {A = Contents} x k) (◌≡◌ {A = Contents} x (record { current = k.current ++ boundary ∷ []; around = k.around; ended = k.ended })) → Rooted z x
      stays (inl e) = subst (λ (v : Contents). Rooted z v) (sym e) w.rooted
      stays (inr e) = subst (λ (v : Contents). Rooted z v) (sym e) w.rooted
  turn_lined at i l m z y k j (takes b f o) w =
      record {
        since_at = omega arith;
        mark_at = omega (arith, w.mark_at);
        rooted = w.rooted;
        says = λ g. says_snoc d (at + 1) (record { since = at + 1; mark = l.mark }) (data_taken s es D at z).current k.current (record_end at)
            (inr (omega (arith, w.mark_at), refl, place_taken_lem (fitting s es D z.current pcdata) z, last_byte d at RE b));
      }
  turn_lined at i l m z y k j (bytes b {w = u} t) w =
      record {
        since_at = omega arith;
        mark_at = omega (arith, w.mark_at);
        rooted = subst (λ (x : State). Parents x.around t.contents.around) (sym t.taken) (moves_rooted t.moves w.rooted);
        says = λ g. says_snoc d (at + 1) (record { since = at + 1; mark = l.mark }) u.current t.contents.current (datum at)
            (omega (arith, w.mark_at), subst (λ (x : State). is_fresh x.current ≡ false) (sym t.taken) (place_taken_lem (fitting s es D t.here.current pcdata) t.here), λ q. b (sym (last_byte d at (byte_at d at) refl) ∙ q));
      }

  pub lined_first : Lined s es D d 0 new_line nothing_open no_contents
  lined_first = record { since_at = omega arith; mark_at = omega arith; rooted = tt; says = λ f. (omega arith, refl) }

  -- The test of the line is that of what came.
  pub lined_test : {at : ℕ} {l : Line} {z : State} {k : Contents} → Lined s es D d at l z k → leb 1 (fitting s es D z.current pcdata) ≡ true → at_once d at l z.current ≡ is_once k.current
  lined_test {at} {l} {z} {k} h f = says_decides d at l z.current (mark_of k.current) (h.says f) ∙ sym (mark_decides k.current)

  -- A byte 13 that would be data is ignored at once exactly if it is "the first in its element and no byte 10, data or subelement came before", or "doesn't
  -- stand directly after a byte 10 or 13 and nothing but markup came since the last of these".
  pub at_once_lem : {at : ℕ} {l : Line} {z : State} {k : Contents} → Fills c s es D d at l z k → 1 ≤ fitting s es D z.current pcdata → (at_once d at l z.current ≡ true) ↔ TakesNoPlace k.current
  at_once_lem {at} {l} {z} {k} h f =
      let e = lined_test (fills_keep (Lined s es D d) lined_first turn_lined h) (le-leb 1 (fitting s es D z.current pcdata) f) in
      let m = once_means k.current in
      (λ q. m.0 (sym e ∙ q), λ q. e ∙ m.1 q)
