-- The texts of names.
use Rattle.std.proofs.Common.{◌≡◌, ◌∙◌, ℕ, ◌+◌, ◌<◌, ◌≤◌, List, [], length, Option, Some, slice_get}
use Rattle.std.proofs.Common.{ap, subst, sym}
use Rattle.std.specs.List.{AllByRecursion}
use Rattle.std.specs.Prelude.{unwrap_or}
use Rattle.sw_sugar.specs.Calls.{declared_as, declared_texts, part_text, text_of, whole_text}
use Rattle.sw_tree.proofs.NamesLemmas.{id_stays, ids_of_interned, length-with_text}
use Rattle.sw_tree.specs.Names.{id_in, with_text, with_texts}
use Rattle.sw_tree.specs.declared.name.Name.{Name}

pub text_is : (texts : List (List ℕ)) (id : ℕ) (text : List ℕ) → slice_get texts id ≡ Some text
    → text_of texts id ≡ text
text_is texts id text is = ap (λ (found : Option (List ℕ)). unwrap_or found []) is

pub longer : (texts : List (List ℕ)) (text : List ℕ)
    → length (with_text texts text) ≤ length texts + 1
longer texts text = length-with_text texts text

-- The parts of a word keep their ids where one text more is interned.
pub declared_stays : (old mid new : List (List ℕ)) (text other : List ℕ) (name : Name)
    → mid ≡ with_texts old (declared_texts text) → new ≡ with_text mid other
    → declared_as (id_in mid) text name ≡ declared_as (id_in new) text name
declared_stays old mid new text other name first next =
    let there : AllByRecursion (λ one. id_in mid one < length mid) (declared_texts text) =
    subst (λ (texts : List (List ℕ)).
    AllByRecursion (λ one. id_in texts one < length texts) (declared_texts text)) (sym first)
    (ids_of_interned old (declared_texts text)) in
    let part : id_in mid (part_text text) ≡ id_in new (part_text text) =
    sym (id_stays mid (part_text text) other there.0)
    ∙ ap (λ (texts : List (List ℕ)). id_in texts (part_text text)) (sym next) in
    let whole : id_in mid (whole_text text) ≡ id_in new (whole_text text) =
    sym (id_stays mid (whole_text text) other there.1.0)
    ∙ ap (λ (texts : List (List ℕ)). id_in texts (whole_text text)) (sym next) in
    λ j. record { name = name; part = part j; whole = whole j }
