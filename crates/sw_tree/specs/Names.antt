-- The texts of a program's names. They are distinct, and a name's id is the index of its text.
use Rattle.std.specs.Prelude.{ℕ, if◌then◌else◌, List, [], ◌∷◌, ◌++◌, codes, bytes_eq, fold}
use Rattle.std.specs.List.{list_any, position_or_len}

-- the names that each program has before it declares any, in the order of their ids
unfoldable pub predeclared : List (List ℕ)
predeclared =
    codes "Int" ∷ codes "Bool" ∷ codes "Void" ∷ codes "Never" ∷ codes "Task" ∷ codes "Sendable"
    ∷ codes "MainActor" ∷ codes "print" ∷ codes "value" ∷ codes "shared" ∷ codes "main"
    ∷ codes "detached" ∷ codes "yield" ∷ []

-- The ids of those that the rules know of, by their places in the list.

abbrev pub int_id : ℕ
int_id = 0

abbrev pub bool_id : ℕ
bool_id = 1

abbrev pub void_id : ℕ
void_id = 2

abbrev pub main_actor_id : ℕ
main_actor_id = 6

abbrev pub print_id : ℕ
print_id = 7

abbrev pub value_id : ℕ
value_id = 8

abbrev pub main_id : ℕ
main_id = 10

-- how many of them, the first ones, no program may declare: those up to `print`
abbrev pub reserved_names : ℕ
reserved_names = 8

-- the index of a text, or the number of texts where it isn't there
unfoldable pub id_in : List (List ℕ) → List ℕ → ℕ
id_in texts text = position_or_len (bytes_eq text) texts

-- the texts with one more: it comes last, and a text that is there isn't added again
unfoldable pub with_text : List (List ℕ) → List ℕ → List (List ℕ)
with_text texts text =
    if list_any (bytes_eq text) texts then texts else texts ++ text ∷ []

-- the texts with each of more, in turn
unfoldable pub with_texts : List (List ℕ) → List (List ℕ) → List (List ℕ)
with_texts texts more = fold with_text texts more
