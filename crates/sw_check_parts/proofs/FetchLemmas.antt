-- What a fetch leaves.
use Rattle.std.proofs.Common.{◌≡◌, ◌+◌, ◌<◌, ◌≤◌, ℕ, List, [], ◌∷◌, length, Option, Some, None}
use Rattle.std.proofs.Common.{option_map, IfSome, IfNone, Ok, Err, refl, sym, subst, arith}
use Rattle.std.specs.Prelude.{replicate}
use Rattle.std.proofs.lemmas.List.{length-replicate}
use Rattle.sw_outside.specs.Rise.{Rose}
use Rattle.sw_outside.specs.Shelf.{KnownShelf, file_of, with_request}
use Rattle.sw_check_parts.specs.declared.stop.Stop.TheVariants as stops
use Rattle.sw_check_parts.specs.declared.TheConstants.{PROGRAM_LIMIT}
use Rattle.sw_check_parts.specs.Course.{read, Fetched, to_fetch, fetching, within, above, too_long_file}
use Rattle.sw_check_parts.specs.Leaves.{SeenShelf, HasRead, Does}
use Rattle.sw_check_parts.proofs.ReadLemmas.{has_read_nothing}

-- one file was read, which has this text where the contents are known
has_read_one : (name text : List ℕ) (before after : Option KnownShelf)
    → IfSome before (λ known. text ≡ file_of known.files name)
    → after ≡ option_map (with_request name) before → HasRead (read name text ∷ []) before after
has_read_one name text None after found requested = record { of_files = tt; requested = requested }
has_read_one name text (Some known) after found requested =
    record { of_files = (found, tt); requested = requested }

pub file_fetched : {name : List ℕ} {limit : ℕ} (text : List ℕ) {before after : SeenShelf}
    → length text ≤ limit → IfSome before.known (λ known. text ≡ file_of known.files name)
    → after.known ≡ option_map (with_request name) before.known → after.faults ≡ before.faults
    → Does (Fetched name limit) before (Ok text) after
file_fetched {name} text {before} {after} short found requested steady = record {
  reads = read name text ∷ [];
  so_far = within text short;
  has_read = has_read_one name text before.known after.known found requested;
  counts = steady;
  received_long = tt;
}

-- a text above the limit, that of the file where the contents are known
record IsLongText (name : List ℕ) (limit : ℕ) (shelf : Option KnownShelf) : Type 0 where
  text : List ℕ
  long : limit < length text
  found : IfSome shelf (λ known. text ≡ file_of known.files name)

long_text : (name : List ℕ) (limit : ℕ) (shelf : Option KnownShelf)
    → IfSome shelf (λ known. limit < length (file_of known.files name))
    → IsLongText name limit shelf
long_text name limit None long = record {
  text = replicate (limit + 1) 0;
  long = omega (arith, length-replicate {A = ℕ} (limit + 1) 0);
  found = tt;
}
long_text name limit (Some known) long =
    record { text = file_of known.files name; long = long; found = refl }

long_enough : (limit : ℕ) (shelf : Option KnownShelf) (received : ℕ) → PROGRAM_LIMIT ≤ limit
    → IfNone shelf (limit < received) → IfNone shelf (PROGRAM_LIMIT < received)
long_enough limit None received enough long = omega (arith, enough, long)
long_enough limit (Some known) received enough long = tt

pub file_too_long : {name : List ℕ} {limit : ℕ} {before after : SeenShelf} → PROGRAM_LIMIT ≤ limit
    → IfSome before.known (λ known. limit < length (file_of known.files name))
    → IfNone before.known (limit < after.received)
    → after.known ≡ option_map (with_request name) before.known → after.faults ≡ before.faults
    → Does (Fetched name limit) before (Err (stops.Refused too_long_file)) after
file_too_long {name} {limit} {before} {after} enough long received requested steady =
    let it = long_text name limit before.known long in
    record {
      reads = read name it.text ∷ [];
      so_far = above it.text it.long;
      has_read = has_read_one name it.text before.known after.known it.found requested;
      counts = steady;
      received_long = λ _. long_enough limit before.known after.received enough received;
    }

-- the text of a file that couldn't be read, where the contents are known
text_in : List ℕ → Option KnownShelf → List ℕ
text_in name None = []
text_in name (Some known) = file_of known.files name

text_in_is : (name : List ℕ) (shelf : Option KnownShelf)
    → IfSome shelf (λ known. text_in name shelf ≡ file_of known.files name)
unfolding text_in
text_in_is name None = tt
text_in_is name (Some known) = refl

pub file_not_read : {name : List ℕ} {limit : ℕ} {before after : SeenShelf}
    → after.known ≡ option_map (with_request name) before.known → Rose before.faults after.faults
    → Does (Fetched name limit) before (Err stops.NotRead) after
file_not_read {name} {limit} {before} {after} requested rose = record {
  reads = read name (text_in name before.known) ∷ [];
  so_far = fetching (text_in name before.known);
  has_read = has_read_one name (text_in name before.known) before.known after.known
      (text_in_is name before.known) requested;
  counts = (omega arith, rose);
  received_long = tt;
}

pub file_not_requested : {name : List ℕ} {limit : ℕ} {before after : SeenShelf}
    → after.known ≡ before.known → after.faults ≡ before.faults
    → Does (Fetched name limit) before (Err stops.Memory) after
file_not_requested {before = before} {after} same steady = record {
  reads = [];
  so_far = to_fetch;
  has_read = subst (HasRead [] before.known) (sym same) (has_read_nothing before.known);
  counts = steady;
  received_long = tt;
}
