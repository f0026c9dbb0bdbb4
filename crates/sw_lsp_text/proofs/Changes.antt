-- The changes of a document, one after the other.
use Rattle.std.proofs.Common.{◌≡◌, ℕ, suc, ◌+◌, ◌-◌, ◌<◌, ◌≤◌, Bool, true, false, ◌||◌, List, [], ◌∷◌, length, get_or}
use Rattle.std.proofs.Common.{drop, codes, Option, Some, None, is_some, option_map, Bor, refl, sym, ap, ◌∙◌, arith}
use Rattle.std.specs.List.{slice_get}
use Rattle.std.proofs.lemmas.List.{at_drop_more, at_drop_all}
use Rattle.serde_json.specs.Find.{get}
use Rattle.serde_json.specs.View.{view, items_view}
use Rattle.serde_json.specs.declared.value.Value.{Value}
use Rattle.sw_lsp_text.specs.Changes.{has_range, last_from, last_item}

abbrev pub is_ranged : Value → Bool
is_ranged v = is_some (get (codes "range") (view v))

module _ (vs : List Value) (i : ℕ) where
  ranged_here : (v : Value) → i < length vs → v ≡ get_or vs i v
      → has_range (items_view (drop i vs)) ≡ (is_ranged v || has_range (items_view (drop (i + 1) vs)))
  ranged_here v less e =
      at_drop_more (λ xs. has_range (items_view xs)) vs i v less
      ∙ ap (λ x. is_ranged x || has_range (items_view (drop (i + 1) vs))) (sym e)

  pub found_ranged : (v : Value) → i < length vs → v ≡ get_or vs i v → is_ranged v ≡ true
      → has_range (items_view (drop i vs)) ≡ has_range (items_view vs) → true ≡ has_range (items_view vs)
  found_ranged v less e ranged before =
      sym (ap (λ b. b || has_range (items_view (drop (i + 1) vs))) ranged) ∙ sym (ranged_here v less e) ∙ before

  pub not_ranged : (v : Value) → i < length vs → v ≡ get_or vs i v → is_ranged v ≡ false
      → has_range (items_view (drop i vs)) ≡ has_range (items_view vs)
      → has_range (items_view (drop (i + 1) vs)) ≡ has_range (items_view vs)
  not_ranged v less e plain before =
      sym (ap (λ b. b || has_range (items_view (drop (i + 1) vs))) plain) ∙ sym (ranged_here v less e) ∙ before

  pub none_ranged : length vs ≤ i → has_range (items_view (drop i vs)) ≡ has_range (items_view vs)
      → false ≡ has_range (items_view vs)
  none_ranged past before = sym (at_drop_all (λ xs. has_range (items_view xs)) vs i past) ∙ before

pub seen_some : (r : Option (Bor Value)) → is_some (option_map (λ v. view v.now) r) ≡ is_some r
seen_some None = refl
seen_some (Some v) = refl

last_from_is : (v : Value) (vs : List Value)
    → option_map view (slice_get (v ∷ vs) (length vs)) ≡ Some (last_from (view v) (items_view vs))
last_from_is v [] = refl
last_from_is v (w ∷ vs) = last_from_is w vs

pub last_is : (vs : List Value) → option_map view (slice_get vs (length vs - 1)) ≡ last_item (items_view vs)
last_is [] = refl
last_is (v ∷ vs) =
    let e : suc (length vs) - 1 ≡ length vs = omega arith in
    rw e (last_from_is v vs)
