-- Lists of the same colours.
use Rattle.std.proofs.Common.{◌≡◌, ℕ, List, [], ◌∷◌, ◌++◌, map, flat_map, Contains}
use Rattle.std.proofs.Common.{refl, sym, subst, inl, inr}
use Rattle.std.proofs.lemmas.List.{map-append}
use Rattle.std.proofs.lemmas.List.Elements.{Contains-append_cases, Contains-append_left}
use Rattle.std.proofs.lemmas.List.Elements.{Contains-append_right}
use Rattle.sw_owner_facts.specs.Colours.{Colour}
use Rattle.sw_view_facts.proofs.RenameLemmas.{of_map}
use Rattle.sw_hue_facts.specs.Hued.{SameColours}
use Rattle.sw_hue_facts.proofs.Lists.{first_in, in_map, later_in}

pub same_lists : (cs ds : List Colour) → cs ≡ ds → SameColours cs ds
same_lists cs ds e = record {
  to = λ c has. subst (λ l. Contains l c) e has;
  from = λ c has. subst (λ l. Contains l c) (sym e) has;
}

pub same_through : (bs cs ds : List Colour) → SameColours bs cs → SameColours cs ds
    → SameColours bs ds
same_through bs cs ds first second = record {
  to = λ c has. second.to c (first.to c has);
  from = λ c has. first.from c (second.from c has);
}

pub same_appended : (bs cs ds es : List Colour) → SameColours bs cs → SameColours ds es
    → SameColours (bs ++ ds) (cs ++ es)
same_appended bs cs ds es first second = record {
  to = λ c has. elim (Contains-append_cases bs ds c has) [
    | inl left ↦ Contains-append_left cs es c (first.to c left)
    | inr right ↦ Contains-append_right cs es c (second.to c right)
  ];
  from = λ c has. elim (Contains-append_cases cs es c has) [
    | inl left ↦ Contains-append_left bs ds c (first.from c left)
    | inr right ↦ Contains-append_right bs ds c (second.from c right)
  ];
}

renamed_within : (f : Colour → Colour) (cs ds : List Colour)
    → ((c : Colour) → Contains cs c → Contains ds c) → (c : Colour) → Contains (map f cs) c
    → Contains (map f ds) c
renamed_within f cs ds within c has =
    let old = of_map f cs c has in
    subst (λ d. Contains (map f ds) d) old.2 (in_map f ds old.0 (within old.0 old.1))

pub same_renamed : (f : Colour → Colour) (cs ds : List Colour) → SameColours cs ds
    → SameColours (map f cs) (map f ds)
same_renamed f cs ds same = record {
  to = renamed_within f cs ds same.to;
  from = renamed_within f ds cs same.from;
}

-- the colours of many, by number and by hue
pub same_flat : {X : Type 0} (h : ℕ → Colour) (f : X → List ℕ) (g : X → List Colour) (xs : List X)
    → ((x : X) → Contains xs x → SameColours (map h (f x)) (g x))
    → SameColours (map h (flat_map f xs)) (flat_map g xs)
same_flat h f g [] each = same_lists [] [] refl
same_flat h f g (x ∷ xs) each =
    same_through (map h (f x ++ flat_map f xs)) (map h (f x) ++ map h (flat_map f xs))
    (g x ++ flat_map g xs) (same_lists _ _ (map-append h (f x) (flat_map f xs)))
    (same_appended (map h (f x)) (g x) (map h (flat_map f xs)) (flat_map g xs)
    (each x (first_in x xs)) (same_flat h f g xs (λ y has. each y (later_in x xs y has))))
