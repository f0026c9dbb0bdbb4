-- The colours of values.
use Rattle.std.proofs.Common.{◌≡◌, ℕ, ◌≤◌, List, [], ◌∷◌, ◌++◌, length, take, refl, ap, sym, ◌∙◌}
use Rattle.std.proofs.lemmas.List.{take_all, append-nil}
use Rattle.std.proofs.lemmas.List.Concat.{flat_map-append}
use Rattle.std.specs.List.{flat_map}
use Rattle.std.proofs.lemmas.List.Folds.{flat_map-map}
use Rattle.sw_value.specs.declared.value.Value.{Value}
use Rattle.sw_value.specs.declared.value.Value.TheOpen as layer
use Rattle.sw_value.specs.declared.value.Value.TheVariants as value
use Rattle.sw_value.specs.declared.value.Value as folds
use Rattle.sw_value.specs.declared.value.Value.TheVariants.{rolls-Group, rolls-Case, rolls-Cell}
use Rattle.sw_color_rules.specs.declared.colors.Tint.{Tint}
use Rattle.sw_color_rules.specs.Tints.{held, references_in, layer_references, colors_in}

refers_cell : (c : ℕ) → references_in (value.Cell c) ≡ c ∷ []
refers_cell c =
    ap references_in (sym (rolls-Cell c))
    ∙ folds.fold-roll-Value (List ℕ) layer_references (layer.Cell c)

refers_group : (parts : List Value)
    → references_in (value.Group parts) ≡ flat_map references_in parts
refers_group parts =
    ap references_in (sym (rolls-Group parts))
    ∙ folds.fold-roll-Value (List ℕ) layer_references (layer.Group parts)
    ∙ flat_map-map (λ part. part) references_in parts

refers_case : (tag : ℕ) (payload : List Value)
    → references_in (value.Case tag payload) ≡ flat_map references_in payload
refers_case tag payload =
    ap references_in (sym (rolls-Case tag payload))
    ∙ folds.fold-roll-Value (List ℕ) layer_references (layer.Case tag payload)
    ∙ flat_map-map (λ part. part) references_in payload

-- lists of lists of lists, joined
joined_twice : {A B C : Type 0} (f : B → List C) (g : A → List B) (xs : List A)
    → flat_map f (flat_map g xs) ≡ flat_map (λ x. flat_map f (g x)) xs
joined_twice f g [] = refl
joined_twice f g (x ∷ xs) =
    flat_map-append f (g x) (flat_map g xs) ∙ ap (λ l. flat_map f (g x) ++ l) (joined_twice f g xs)

colors_group : (tints : List Tint) (parts : List Value)
    → colors_in tints (value.Group parts) ≡ flat_map (colors_in tints) parts
unfolding colors_in
colors_group tints parts =
    ap (flat_map (held tints)) (refers_group parts) ∙ joined_twice (held tints) references_in parts

colors_case : (tints : List Tint) (tag : ℕ) (payload : List Value)
    → colors_in tints (value.Case tag payload) ≡ flat_map (colors_in tints) payload
unfolding colors_in
colors_case tints tag payload =
    ap (flat_map (held tints)) (refers_case tag payload)
    ∙ joined_twice (held tints) references_in payload

pub colors_cell : (tints : List Tint) (c : ℕ) → colors_in tints (value.Cell c) ≡ held tints c
unfolding colors_in
colors_cell tints c = ap (flat_map (held tints)) (refers_cell c) ∙ append-nil (held tints c)

pub group_done : (tints : List Tint) (v : Value) (parts items : List Value) (i : ℕ)
    (before after : List ℕ) → v ≡ value.Group parts → items ≡ parts → length items ≤ i
    → after ≡ before ++ flat_map (colors_in tints) (take i items)
    → after ≡ before ++ colors_in tints v
group_done tints v parts items i before after is same past so_far =
    so_far
    ∙ ap (λ l. before ++ flat_map (colors_in tints) l) (take_all i items past ∙ same)
    ∙ ap (λ l. before ++ l) (sym (ap (colors_in tints) is ∙ colors_group tints parts))

pub case_done : (tints : List Tint) (v : Value) (tag : ℕ) (payload items : List Value) (i : ℕ)
    (before after : List ℕ) → v ≡ value.Case tag payload → items ≡ payload → length items ≤ i
    → after ≡ before ++ flat_map (colors_in tints) (take i items)
    → after ≡ before ++ colors_in tints v
case_done tints v tag payload items i before after is same past so_far =
    so_far
    ∙ ap (λ l. before ++ flat_map (colors_in tints) l) (take_all i items past ∙ same)
    ∙ ap (λ l. before ++ l) (sym (ap (colors_in tints) is ∙ colors_case tints tag payload))
