-- What is answered of one attribute, and of all of a tag.
use Rattle.std.specs.Prelude.{ℕ, Result, Ok, Err, ◌+◌, ◌*◌, ◌-◌, ◌≤◌, ◌≡◌, Bool, true, false, List, [], ◌∷◌, ◌++◌, length, get_or, take, leb}
use Rattle.std.proofs.Common.{sym, ◌∙◌, ap, subst, arith, le-leb}
use Rattle.std.proofs.Math.Bool.{and-false}
use Rattle.rules.specs.Bytes.{ATTCNT}
use Rattle.rules.specs.Reading.{refused, got}
use Rattle.rules.specs.Attributes.{DeclaredValue, Attribute, bytes_in, attribute_of, attribute_at, fits}
use Rattle.rules.specs.Document.{Written}
use Rattle.rules.specs.Given.{value_part, value_bytes, is_given_in, given_for, none_missing, attributed}
use Rattle.text.specs.declared.Fault.{Fault}
use Rattle.text.specs.declared.Refusal.TheVariants as refusal
use Rattle.text.specs.Refusal.{fault_at, refusal_of}
use Rattle.layout.specs.Sizes.{ATTRIBUTE, MARKS}
use Rattle.attribute_values.specs.Parts.{DeclaredAs}
use Rattle.list_table.specs.declared.Row.{Row}
use Rattle.list_table.specs.Lists.{row_in, ListAt}
use Rattle.tag_attributes.specs.Given.{kept_of, KeptAs}
use Rattle.attribute_marks.specs.Found.{of_some}
use Rattle.attribute_marks.specs.Differ.{NamesDiffer}
use Rattle.attribute_marks.specs.Marks.{Marked}
use Rattle.attribute_marks.specs.Each.{is_new, is_fitting, Marks, Given, unlisted, unfitting, fitting}
use Rattle.attribute_marks.specs.Marking.{is_some, mark_none, mark_some, given_in, put_mark, marked_more}
use Rattle.attribute_marks.specs.Listed.{kept_all, kept_refused}

-- One attribute w, of which the table at b finds the number n.
module _ (long : ℕ) (s l : List ℕ) (b : ℕ) (d : List ℕ) (w : Written) (marks : List ℕ) (xs : List Attribute) (before : List Written) (a : ListAt long s l b xs) (u : NamesDiffer s xs) (m : Marked s xs d before marks) (n : ℕ)
    (e : n ≡ attribute_of s xs d w.at w.size) where
  pub answer_unlisted : n ≡ 0 → Marks long s xs d before w marks (Err refusal.Attribute)
  answer_unlisted z = let o : attribute_of s xs d w.at w.size ≡ 0 = sym e ∙ z in unlisted (rw o)

  module _ (z : n ≡ 0 → ⊥) where
    given : is_given_in d before w ≡ is_some (given_for s (attribute_at xs (n - 1)) d before)
    given = given_in s (attribute_at xs (n - 1)) d before w (of_some s d w.at w.size xs n e z).1

    pub answer_again : (get_or marks (2 * (n - 1)) 0 ≡ 0 → ⊥) → Marks long s xs d before w marks (Err refusal.Attribute)
    answer_again x =
        let g : is_given_in d before w ≡ true = given ∙ mark_some marks (n - 1) (given_for s (attribute_at xs (n - 1)) d before) (m (n - 1) (of_some s d w.at w.size xs n e z).0) x in
        unlisted (rw g (and-false (leb 1 (attribute_of s xs d w.at w.size))))

    module _ (whole : length marks ≡ MARKS) (x : get_or marks (2 * (n - 1)) 0 ≡ 0) (row : Row) (q : row ≡ row_in l (b + 1 + ATTRIBUTE * (n - 1))) where
      new : is_new s xs d before w ≡ true
      new =
          let g : is_given_in d before w ≡ false = given ∙ mark_none marks (n - 1) (given_for s (attribute_at xs (n - 1)) d before) (m (n - 1) (of_some s d w.at w.size xs n e z).0) x in
          rw (g, le-leb 1 (attribute_of s xs d w.at w.size) (omega (arith, e, z)))

      after : Marked s xs d (before ++ w ∷ []) (put_mark marks (n - 1) (w.quote + 1) w.width)
      after =
          let (i, y) = of_some s d w.at w.size xs n e z in
          marked_more s xs d before w marks (n - 1) whole a.few u m i y x

      -- Whether its value v fits.
      module _ (v : List ℕ) (p : v ≡ value_bytes d d true (value_part w)) (inside : w.quote + 1 + w.width ≤ length d) (r : Bool) (f : (y : DeclaredValue) → DeclaredAs long s row.value y → r ≡ fits long s y v) where
        fit : r ≡ is_fitting long s xs d w
        fit =
            let i = (of_some s d w.at w.size xs n e z).0 in
            let o = f (attribute_at xs (n - 1)).value (subst (λ (x : Row). DeclaredAs long s x.value (attribute_at xs (n - 1)).value) (sym q) (a.rows (n - 1) i).value) in
            let b : value_bytes d d true (value_part w) ≡ bytes_in d (value_part w) = rw (value_bytes, le-leb _ _ inside) in
            o ∙ ap (fits long s (attribute_at xs (n - 1)).value) (p ∙ b) ∙ ap (λ (k : ℕ). fits long s (attribute_at xs (k - 1)).value (bytes_in d (value_part w))) e

        pub answer_fitting : r ≡ true → Marks long s xs d before w (put_mark marks (n - 1) (w.quote + 1) w.width) (Ok tt)
        answer_fitting t = fitting new after (sym fit ∙ t)

        pub answer_unfitting : r ≡ false → Marks long s xs d before w (put_mark marks (n - 1) (w.quote + 1) w.width) (Err refusal.Value)
        answer_unfitting t = unfitting new after (sym fit ∙ t)

-- All attributes of a tag are held against the list.
module _ (long : ℕ) (s : List ℕ) (xs : List Attribute) (d : List ℕ) (ws : List Written) (marks : List ℕ) where
  -- What is answered of those that are kept is so of all.
  kept_given : (few : length xs ≤ ATTCNT) (f : Result (Unit {0}) Fault) → Given long s xs d (take (ATTCNT + 1) ws) marks f → Given long s xs d ws marks f
  kept_given few f (unlisted at e) = unlisted at (kept_refused s xs d ws e)
  kept_given few f (unfitting at e g) = subst (λ (vs : List Written). Given long s xs d vs marks (Err (fault_at refusal.Value at))) (kept_all s xs d ws few e) (unfitting at e g)
  kept_given few f (fitting e g m) = subst (λ (vs : List Written). Given long s xs d vs marks (Ok tt)) (kept_all s xs d ws few e) (fitting e g m)

  pub all_given : (l : List ℕ) (b : ℕ) → ListAt long s l b xs → (g : List ℕ) (n : ℕ) → KeptAs g n ws → (f : Result (Unit {0}) Fault) → Given long s xs d (kept_of g n) marks f → Given long s xs d ws marks f
  all_given l b a g n k f x = kept_given a.few f (subst (λ (vs : List Written). Given long s xs d vs marks f) k.kept x)

  module _ (at : ℕ) where
    -- What the code says of it, which is refused as it is read, lacks one, or passes.
    pub attributed_refused : {f : Fault} → Given long s xs d ws marks (Err f) → attributed long s xs d at ws ≡ refusal_of f
    unfolding attributed
    attributed_refused (unlisted p e) = rw (attributed, e)
    attributed_refused (unfitting p e g) = rw (attributed, e, g)

    passed_given : Given long s xs d ws marks (Ok tt) → (attributed long s xs d at ws ≡ none_missing s xs d at ws) × Marked s xs d ws marks
    unfolding attributed
    passed_given (fitting e g m) = (rw (attributed, e, g), m)

    module _ (x : Given long s xs d ws marks (Ok tt)) (r : Bool) (h : Marked s xs d ws marks → none_missing s xs d at ws ≡ elim r [ true ↦ refused 21 at | false ↦ got tt ]) where
      pub attributed_missing : r ≡ true → attributed long s xs d at ws ≡ refused 21 at
      attributed_missing e =
          let (o, m) = passed_given x in
          o ∙ h m ∙ rw e

      pub attributed_passed : r ≡ false → (attributed long s xs d at ws ≡ got tt) × Marked s xs d ws marks
      attributed_passed e =
          let (o, m) = passed_given x in
          (o ∙ h m ∙ rw e, m)
