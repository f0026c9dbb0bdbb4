-- The frames with which the machine begins: above the first one, of functions that give first values.
use Rattle.std.proofs.Common.{◌≡◌, ℕ, zero, suc, inl, inr, Option, Some, None, List, [], ◌∷◌}
use Rattle.std.proofs.Common.{reverse, Contains, refl, sym, ◌∙◌, subst}
use Rattle.std.specs.List.{slice_get, filter_map, cons_option}
use Rattle.std.proofs.lemmas.List.Elements.{Contains-push_cases}
use mathlib.Core.List.{reverse-cons}
use Rattle.sw_list.proofs.Members.{first_in, later_in}
use Rattle.sw_graph.specs.declared.graph.Graph.{Graph}
use Rattle.sw_value.specs.declared.frame.Frame.{Frame}
use Rattle.sw_value.specs.Frame.{first_frame}
use Rattle.sw_value.specs.Start.{start_frames}
use Rattle.sw_machine_let_facts.proofs.BeginLemmas.{first_number}

-- an item that is given of one of others
of_filter_map : {A B : Type 0} (h : A → Option B) (xs : List A) (k : ℕ) (y : B)
    → slice_get (filter_map h xs) k ≡ Some y → (x : A) × Contains xs x × (h x ≡ Some y)
of_filter_map h [] k y at = cc
of_filter_map {A} {B} h (x ∷ xs) k y at =
    by (h x) refl k (λ i there. let found = of_filter_map h xs i y there in
    (found.0, later_in x xs found.0 found.1, found.2)) at where
      by : (o : Option B) → h x ≡ o → (k : ℕ)
          → ((i : ℕ) → slice_get (filter_map h xs) i ≡ Some y
          → (z : A) × Contains (x ∷ xs) z × (h z ≡ Some y))
          → slice_get (cons_option o (filter_map h xs)) k ≡ Some y
          → (z : A) × Contains (x ∷ xs) z × (h z ≡ Some y)
      by None is k later at = later k at
      by (Some z) is zero later at = (x, first_in x xs, is ∙ at)
      by (Some z) is (suc i) later at = later i at

-- one above the first place is none of the first
above_first : {A B : Type 0} (h : A → Option B) (x : A) (xs : List A) (depth : ℕ) (y : B)
    → slice_get (filter_map h (x ∷ xs)) (suc depth) ≡ Some y
    → (z : A) × Contains xs z × (h z ≡ Some y)
above_first {A} {B} h x xs depth y = by (h x) where
  by : (o : Option B) → slice_get (cons_option o (filter_map h xs)) (suc depth) ≡ Some y
      → (z : A) × Contains xs z × (h z ≡ Some y)
  by None at = of_filter_map h xs (suc depth) y at
  by (Some w) at = of_filter_map h xs depth y at

of_reverse : {A : Type 0} (xs : List A) (x : A) → Contains (reverse xs) x → Contains xs x
of_reverse [] x has = has
of_reverse (y ∷ ys) x has =
    elim (Contains-push_cases (reverse ys) y x
    (subst (λ l. Contains l x) (reverse-cons y ys) has)) [
      | inl later ↦ later_in y ys x (of_reverse ys x later)
      | inr same ↦ subst (Contains (y ∷ ys)) same (first_in y ys)
    ]

pub above_entry : (graph : Graph) (depth : ℕ) (frame : Frame)
    → slice_get (start_frames graph) (suc depth) ≡ Some frame
    → Contains graph.starts frame.function
unfolding start_frames
above_entry graph depth frame at =
    let found = above_first (λ f. first_frame graph f []) graph.entry (reverse graph.starts) depth
    frame at in
    subst (Contains graph.starts) (sym (first_number graph found.0 [] frame found.2))
    (of_reverse graph.starts found.0 found.1)
