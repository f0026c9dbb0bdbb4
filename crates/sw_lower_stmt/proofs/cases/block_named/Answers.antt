use Rattle.std.proofs.Common.{◌≡◌, ◌⊎◌, ℕ, List, [], ◌∷◌, None, inl, inr, ap, length, refl, sym}
use Rattle.std.proofs.Common.{◌∙◌}
use Rattle.std.proofs.lemmas.List.{nil_from_length}
use Rattle.std.specs.Iterator.Adapters.{zip_first, zip_second}
use Rattle.std.specs.Slice.Iter.{iter_rest}
use Rattle.sw_tree.specs.declared.stmt.CaseArm.{CaseArm}
use Rattle.sw_lower_stmt.specs.Parts.{block_named}
use Rattle.sw_lower_stmt.proofs.cases.block_named.Goals as goal

none_named : (trees : List CaseArm) (blocks : List ℕ) (name : ℕ)
    → (length trees ≡ 0) ⊎ (length blocks ≡ 0) → block_named trees blocks name ≡ None
none_named trees blocks name (inl none_left) =
    ap (λ xs. block_named xs blocks name) (nil_from_length trees none_left)
none_named [] blocks name (inr none_left) = refl
none_named (tree ∷ trees) blocks name (inr none_left) =
    ap (λ ns. block_named (tree ∷ trees) ns name) (nil_from_length blocks none_left)

pub returns : goal.returns
returns c =
    let trees = iter_rest (zip_first c.loop-arm.arm-iterator) in
    let blocks = iter_rest (zip_second c.loop-arm.arm-iterator) in
    let none_left : (length trees ≡ 0) ⊎ (length blocks ≡ 0) =
    elim c.in-None.ensures.steps [ inl w ↦ inl w.1.0 | inr w ↦ inr w.1.0 ] in
    sym (none_named trees blocks c.args.name none_left) ∙ c.loop-arm.invariant
