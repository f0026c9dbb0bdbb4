-- What a function is lent is with `Here` at its entry.
use Rattle.std.proofs.Common.{◌≡◌, ℕ, zero, suc, ◌+◌, List, [], ◌∷◌, Contains, Option, Some, sym}
use Rattle.std.proofs.Common.{subst, ap, ◌∙◌, arith, Bool, false, cond, inr, refl}
use Rattle.std.specs.List.{slice_get}
use Rattle.std.proofs.lemmas.List.Elements.{Contains-append_left, Contains-append_right}
use Rattle.sw_list.proofs.Members.{first_in}
use Rattle.sw_owner_facts.specs.View.{Here, Register}
use Rattle.sw_partition.specs.Regions.{Regions, IsWithin}
use Rattle.sw_region_ops.specs.Elements.{element_at}
use Rattle.sw_region_ops.specs.Entry.{lent_from, listed, IsEntry}
use Rattle.sw_region_ops.specs.Setting.{FunctionSetting}
use Rattle.sw_region_flow.specs.Least.{IsLeast}
use Rattle.sw_solve.specs.Annotation.{value_at, IsBelow}
use Rattle.sw_region_facts.specs.FrameRegions.{TogetherIn}
use Rattle.sw_region_facts.proofs.Numbers.{together_from}

lent_has : (elements : List (Option ℕ)) (k : ℕ) (sending : List Bool) (i x : ℕ)
    → slice_get sending i ≡ Some false → element_at elements (k + i) ≡ Some x
    → Contains (lent_from elements k sending) x
lent_has elements k [] i x at is = cc
lent_has elements k (sends ∷ sending) zero x at is =
    let lent : sends ≡ false = cc in
    let here : k + 0 ≡ k = omega arith in
    Contains-append_left (cond sends [] (listed (element_at elements k)))
    (lent_from elements (k + 1) sending) x
    (subst (λ b. Contains (cond b [] (listed (element_at elements k))) x) (sym lent)
    (subst (λ o. Contains (listed o) x) (sym (ap (element_at elements) (sym here) ∙ is))
    (first_in x [])))
lent_has elements k (sends ∷ sending) (suc i) x at is =
    let there : k + 1 + i ≡ k + suc i = omega arith in
    Contains-append_right (cond sends [] (listed (element_at elements k)))
    (lent_from elements (k + 1) sending) x
    (lent_has elements (k + 1) sending i x at (ap (element_at elements) there ∙ is))

-- also in a greater state
pub lent_with_here : (setting : FunctionSetting) (sites : List ℕ) (entry e : Regions)
    → IsEntry setting sites entry → IsWithin entry e → (k x : ℕ)
    → slice_get setting.body.sending k ≡ Some false → element_at setting.elements k ≡ Some x
    → TogetherIn setting.elements e (Register k) Here
lent_with_here setting sites entry e is within k x lent at =
    let here : 0 + k ≡ k = omega arith in
    together_from setting.elements e (Register k) Here x 0 at refl
    (within.together x 0 ((is.together x 0).1 (inr (
      Contains-append_right (0 ∷ []) (lent_from setting.elements 0 setting.body.sending) x
          (lent_has setting.elements 0 setting.body.sending k x lent
          (ap (element_at setting.elements) here ∙ at)),
      first_in 0 (lent_from setting.elements 0 setting.body.sending),
    ))))

pub lent_at_entry : (setting : FunctionSetting) (states : List (Option Regions))
    → IsLeast setting states → (e : Regions) → value_at states 0 ≡ Some e → (k x : ℕ)
    → slice_get setting.body.sending k ≡ Some false → element_at setting.elements k ≡ Some x
    → TogetherIn setting.elements e (Register k) Here
lent_at_entry setting states least e stands =
    lent_with_here setting least.sites least.closed.entry e least.closed.enters_by
    (subst (IsBelow IsWithin least.closed.entry) stands least.closed.entered)
