-- Classes that are named one after the other.
use Rattle.std.proofs.Common.{◌≡◌, ℕ, zero, suc, ◌+◌, ◌<◌, ◌≤◌, inl, inr, List, [], ◌∷◌, ◌++◌}
use Rattle.std.proofs.Common.{length, slice_index, refl, sym, subst, ap, ◌∙◌, arith, length-append}
use Rattle.std.proofs.Common.{append_assoc}
use Rattle.std.proofs.Math.Seq.{get_or-append_seam}
use Rattle.std.proofs.lemmas.Bool.{cases_eq}
use Rattle.std.proofs.lemmas.List.{append-nil, get_or_push, get_or_append_left}
use Rattle.sw_cert.specs.Certificate.{AreClasses}
use Rattle.sw_cert.specs.Choices.{MayBeNext}

pub no_classes : AreClasses []
no_classes = λ x lt. absurd (omega (arith, lt))

pub push_length : (classes : List ℕ) (class : ℕ) → length (classes ++ class ∷ []) ≡ length classes + 1
push_length classes class = length-append classes (class ∷ [])

pub one_class_more : (classes : List ℕ) (class : ℕ) → AreClasses classes → MayBeNext classes class
    → AreClasses (classes ++ class ∷ [])
one_class_more classes class are next x lt = elim (cases_eq x (length classes)) [
  | inl e ↦ (at_most e, own e next)
  | inr ne ↦ (
      let h = are x (omega (arith, lt, ne, push_length classes class)) in
      let here = before x (omega (arith, lt, ne, push_length classes class)) in (
        omega (arith, h.0, here),
        ap (slice_index (classes ++ class ∷ [])) here ∙ before (slice_index classes x) (omega (
          arith,
          h.0,
          lt,
          ne,
          push_length classes class,
        )) ∙ h.1 ∙ sym here,
      )
      )
]
  where
    before : (k : ℕ) → k < length classes → slice_index (classes ++ class ∷ []) k
        ≡ slice_index classes k
    before k lt = get_or_append_left classes (class ∷ []) 0 k lt

    last : (k : ℕ) → k ≡ length classes → slice_index (classes ++ class ∷ []) k ≡ class
    last k e = get_or_push classes class 0 k (sym e)

    at_most : x ≡ length classes → slice_index (classes ++ class ∷ []) x ≤ x
    at_most e = by next
      where
        by : MayBeNext classes class → slice_index (classes ++ class ∷ []) x ≤ x
        by (inl is) = omega (arith, last x e, is, e)
        by (inr is) = omega (arith, last x e, is.0, e)

    own : x ≡ length classes → MayBeNext classes class
        → slice_index (classes ++ class ∷ []) (slice_index (classes ++ class ∷ []) x)
        ≡ slice_index (classes ++ class ∷ []) x
    own e (inl is) = ap (slice_index (classes ++ class ∷ [])) (last x e) ∙ last class is
        ∙ sym (last x e)
    own e (inr is) = ap (slice_index (classes ++ class ∷ [])) (last x e) ∙ before class is.0 ∙ is.1
        ∙ sym (last x e)

-- the class of an element among those before it
pub class_is_next : (classes rest : List ℕ) (class : ℕ) → AreClasses (classes ++ class ∷ rest)
    → MayBeNext classes class
class_is_next classes rest class are =
    let at : slice_index (classes ++ class ∷ rest) (length classes) ≡ class =
    get_or-append_seam classes class rest 0 in
    let h = are (length classes) (omega (arith, length-append classes (class ∷ rest))) in
    elim (cases_eq class (length classes)) [
      | inl e ↦ inl e
      | inr ne ↦ (let lt : class < length classes = omega (arith, h.0, at, ne) in inr (
        lt,
        sym (get_or_append_left classes (class ∷ rest) 0 class lt)
            ∙ ap (slice_index (classes ++ class ∷ rest)) (sym at) ∙ h.1 ∙ at,
      ))
    ]

-- the classes before one
pub first_classes : (classes rest : List ℕ) → AreClasses (classes ++ rest) → AreClasses classes
first_classes classes rest are x lt =
    let h = are x (omega (arith, lt, length-append classes rest)) in
    let here = get_or_append_left classes rest 0 x lt in (
      omega (arith, h.0, here),
      sym (get_or_append_left classes rest 0 (slice_index classes x)
          (omega (arith, h.0, here, lt)))
          ∙ ap (slice_index (classes ++ rest)) (sym here) ∙ h.1 ∙ here,
    )

-- each further element alone
pub complete : (count : ℕ) (classes : List ℕ) → AreClasses classes
    → (rest : List ℕ) × (length (classes ++ rest) ≡ length classes + count)
    × AreClasses (classes ++ rest)
complete zero classes are = (
  [],
  ap length (append-nil classes) ∙ omega arith,
  subst AreClasses (sym (append-nil classes)) are,
)
complete (suc count) classes are =
    let more = one_class_more classes (length classes) are (inl refl) in
    let h = complete count (classes ++ length classes ∷ []) more in
    let e = append_assoc classes (length classes ∷ []) h.0 in (
      length classes ∷ h.0,
      ap length (sym e) ∙ h.1 ∙ omega (arith, push_length classes (length classes)),
      subst AreClasses e h.2,
    )

-- a number of elements, each alone
pub alone : (count : ℕ) → (classes : List ℕ) × (length classes ≡ count) × AreClasses classes
alone count = let h = complete count [] no_classes in (h.0, omega (arith, h.1), h.2)
