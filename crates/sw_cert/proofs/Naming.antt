-- Classes that are read one after the other.
use Rattle.std.proofs.Common.{◌≡◌, ◌≢◌, ℕ, ◌+◌, ◌<◌, ◌≤◌, inl, inr, ◌↔◌, List, [], ◌∷◌, ◌++◌}
use Rattle.std.proofs.Common.{length, take, slice_index, Contains, refl, sym, subst, ap, ◌∙◌}
use Rattle.std.proofs.Common.{arith, Some}
use Rattle.std.specs.List.{slice_get}
use Rattle.std.proofs.lemmas.Bool.{cases_eq}
use Rattle.std.proofs.lemmas.List.{get_or_push, get_or_append_left, length-take-le, take_more}
use Rattle.std.proofs.lemmas.List.Elements.{Contains-append_left, Contains-push}
use Rattle.std.proofs.lemmas.List.Elements.{Contains-push_cases}
use Rattle.sw_dictation.specs.Lines.{IsBadPlace}
use Rattle.sw_dictation.specs.Numbers.{IsOffered}
use Rattle.sw_cert.proofs.Beginning.{begun_more, going_offered, stuck_same}
use Rattle.sw_cert.proofs.Beginning.{stuck_is_bad}
use Rattle.sw_cert.proofs.Classing.{no_classes, one_class_more, push_length}
use Rattle.sw_cert.proofs.Following.{one_extent, class_follows}
use Rattle.sw_cert.specs.Begun.{IsForm, IsNext, IsStuck, IsHeadRead, AreClassesRead}
use Rattle.sw_cert.specs.Begun.{AreAllClassesRead, AreRoots}
use Rattle.sw_cert.specs.Choices.{MayBeNext}
use Rattle.sw_cert.specs.Form.{certificate_form}
use Rattle.sw_cert.specs.declared.form.Form.{Form}
use Rattle.sw_cert.specs.declared.line.Extent.{Extent}
use Rattle.sw_cert.specs.declared.line.Spot.{Spot}

-- ---- the elements that are the least of their class
pub no_roots : AreRoots [] []
no_roots = record {
  each = λ n. (λ (k, within, at). absurd (omega (arith, within)), λ h. absurd (omega (arith, h.0)));
}

-- with the next element they are what may be named
pub roots_offer : (classes roots offered : List ℕ) (element : ℕ) → AreRoots classes roots
    → element ≡ length classes → offered ≡ roots ++ element ∷ []
    → (n : ℕ) → Contains offered n ↔ MayBeNext classes n
roots_offer classes roots offered element are at is n = (forth, back)
  where
    forth : Contains offered n → MayBeNext classes n
    forth has = elim (Contains-push_cases roots element n (subst (λ l. Contains l n) is has)) [
      | inl old ↦ inr ((are.each n).0 old)
      | inr e ↦ inl (sym e ∙ at)
    ]

    back : MayBeNext classes n → Contains offered n
    back (inl e) = subst (λ l. Contains l n) (sym is)
        (subst (Contains (roots ++ element ∷ [])) (at ∙ sym e) (Contains-push roots element))
    back (inr own) = subst (λ l. Contains l n) (sym is)
        (Contains-append_left roots (element ∷ []) n ((are.each n).1 own))

module _ (classes roots : List ℕ) (class : ℕ) (are : AreRoots classes roots) where
  before : (n : ℕ) → n < length classes
      → slice_index (classes ++ class ∷ []) n ≡ slice_index classes n
  before n lt = get_or_append_left classes (class ∷ []) 0 n lt

  last : slice_index (classes ++ class ∷ []) (length classes) ≡ class
  last = get_or_push classes class 0 (length classes) refl

  -- the next element is the least of its class
  pub root_more : class ≡ length classes
      → AreRoots (classes ++ class ∷ []) (roots ++ length classes ∷ [])
  root_more own = record { each = λ n. (forth n, back n) }
    where
      forth : (n : ℕ) → Contains (roots ++ length classes ∷ []) n
          → (n < length (classes ++ class ∷ []))
          × (slice_index (classes ++ class ∷ []) n ≡ n)
      forth n has = elim (Contains-push_cases roots (length classes) n has) [
        | inl old ↦ (let h = (are.each n).0 old in
            (omega (arith, h.0, push_length classes class), before n h.0 ∙ h.1))
        | inr e ↦ (
          omega (arith, e, push_length classes class),
          ap (slice_index (classes ++ class ∷ [])) (sym e) ∙ last ∙ own ∙ e,
        )
      ]

      back : (n : ℕ) → (n < length (classes ++ class ∷ []))
          × (slice_index (classes ++ class ∷ []) n ≡ n)
          → Contains (roots ++ length classes ∷ []) n
      back n (lt, own_too) = elim (cases_eq n (length classes)) [
        | inl e ↦ subst (Contains (roots ++ length classes ∷ [])) (sym e)
            (Contains-push roots (length classes))
        | inr ne ↦ (let inside : n < length classes =
            omega (arith, lt, ne, push_length classes class) in
            Contains-append_left roots (length classes ∷ []) n
            ((are.each n).1 (inside, sym (before n inside) ∙ own_too)))
      ]

  -- it isn't
  pub root_same : class ≢ length classes → AreRoots (classes ++ class ∷ []) roots
  root_same other = record {
    each = λ n. (
      λ has. (let h = (are.each n).0 has in
          (omega (arith, h.0, push_length classes class), before n h.0 ∙ h.1)),
      back n,
    );
  }
    where
      back : (n : ℕ) → (n < length (classes ++ class ∷ []))
          × (slice_index (classes ++ class ∷ []) n ≡ n) → Contains roots n
      back n (lt, own) = elim (cases_eq n (length classes)) [
        | inl e ↦ absurd (other (sym last
            ∙ ap (slice_index (classes ++ class ∷ [])) (sym e) ∙ own ∙ e))
        | inr ne ↦ (let inside : n < length classes =
            omega (arith, lt, ne, push_length classes class) in
            (are.each n).1 (inside, sym (before n inside) ∙ own))
      ]

-- those of the first elements, with one more
module _ (classes roots : List ℕ) (k : ℕ) (lt : k < length classes)
    (are : AreRoots (take k classes) roots) where
  taken : length (take k classes) ≡ k
  taken = length-take-le k classes (omega (arith, lt))

  split : take (k + 1) classes ≡ take k classes ++ slice_index classes k ∷ []
  split = take_more classes k 0 lt

  pub first_root : (new : List ℕ) → slice_index classes k ≡ k → new ≡ roots ++ k ∷ []
      → AreRoots (take (k + 1) classes) new
  first_root new own grown = subst (λ l. AreRoots l new) (sym split)
      (subst (AreRoots (take k classes ++ slice_index classes k ∷ []))
      (ap (λ n. roots ++ n ∷ []) taken ∙ sym grown)
      (root_more (take k classes) roots (slice_index classes k) are (own ∙ sym taken)))

  pub first_same : slice_index classes k ≢ k → AreRoots (take (k + 1) classes) roots
  first_same other = subst (λ l. AreRoots l roots) (sym split)
      (root_same (take k classes) roots (slice_index classes k) are (λ e. other (e ∙ taken)))

-- ---- the classes of a line
abbrev pub Names : List ℕ → ℕ → ℕ → Type 0
Names classes n c = (c ≡ 32) × MayBeNext classes n

pub class_offered : (classes roots offered : List ℕ) (element : ℕ) → AreRoots classes roots
    → element ≡ length classes → offered ≡ roots ++ element ∷ []
    → (n c : ℕ) → IsOffered [] offered n c ↔ Names classes n c
class_offered classes roots offered element are at is =
    going_offered offered (MayBeNext classes) (roots_offer classes roots offered element are at is)

module _ (form : Form) (is : IsForm form) (spot : Spot) (text : List ℕ) (head : Spot)
    (extent : Extent) (here : slice_get form.extents head.function ≡ Some extent) where
  elements_here : (count : ℕ) (classes : List ℕ) (at : ℕ)
      → (read : AreClassesRead form.extents spot text head count classes at)
      → read.extent.elements ≡ extent.elements
  elements_here count classes at read = ap (λ (x : Extent). x.elements)
      (one_extent form.extents read.extent extent head.function head.function
      read.has_line.is_extent refl here)

  pub classes_start : (classes : List ℕ) (at : ℕ) → classes ≡ []
      → IsHeadRead form.extents spot text head at
      → AreClassesRead form.extents spot text head 0 classes at
  classes_start classes at none read =
      subst (λ l. AreClassesRead form.extents spot text head 0 l at) (sym none) (record {
        extent = read.extent;
        has_line = read.has_line;
        few = omega arith;
        count_is = refl;
        are_classes = no_classes;
        begun = read.begun;
      })

  pub classes_more : (count : ℕ) (classes new : List ℕ) (class at end : ℕ)
      → (read : AreClassesRead form.extents spot text head count classes at)
      → count < extent.elements
      → new ≡ classes ++ class ∷ [] → IsNext (Names classes) text at class end
      → AreClassesRead form.extents spot text head (count + 1) new end
  classes_more count classes new class at end read more grown next =
      subst (λ l. AreClassesRead form.extents spot text head (count + 1) l end) (sym grown)
      (record {
        extent = read.extent;
        has_line = read.has_line;
        few = omega (arith, more, elements_here count classes at read);
        count_is = push_length classes class ∙ ap (λ n. n + 1) read.count_is;
        are_classes = one_class_more classes class read.are_classes next.offered.1;
        begun = begun_more (Names classes) text
            (head.function ∷ head.block ∷ read.extent.elements ∷ classes) at class end read.begun
            next next.offered.0;
      })

  pub class_not_named : (count : ℕ) (classes : List ℕ) (at bad : ℕ)
      → (read : AreClassesRead form.extents spot text head count classes at)
      → count < extent.elements → IsStuck (Names classes) text at bad
      → IsBadPlace (certificate_form form.extents) spot text bad
  class_not_named count classes at bad read more stuck =
      let follows = class_follows form.extents is.fit spot head.function read.extent
      read.has_line.is_extent head.block read.has_line.within read.has_line.rises classes
      (omega (arith, more, read.count_is, elements_here count classes at read))
      read.are_classes in
      stuck_is_bad form.extents spot text
      (head.function ∷ head.block ∷ read.extent.elements ∷ classes) at read.begun bad
      (inr (length classes, 32, (follows (length classes) 32).1 (refl, inl refl)))
      (λ none. cc)
      (stuck_same (Names classes) _ text at bad
      (λ n c. ((follows n c).1, (follows n c).0)) stuck)

  pub classes_end : (count : ℕ) (classes : List ℕ) (at : ℕ)
      → (read : AreClassesRead form.extents spot text head count classes at)
      → extent.elements ≤ count
      → AreAllClassesRead form.extents spot text head classes at
  classes_end count classes at read all = record {
    extent = read.extent;
    has_line = read.has_line;
    has_classes = record {
      all = omega (arith, read.count_is, read.few, all, elements_here count classes at read);
      are_classes = read.are_classes;
    };
    begun = read.begun;
  }
