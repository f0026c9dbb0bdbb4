-- What was read, in two pieces.
use Rattle.std.proofs.Common.{◌≡◌, ℕ, List, [], ◌∷◌, ◌++◌, map, Option, Some, None, option_map}
use Rattle.std.proofs.Common.{IfSome, IfNone, refl, sym, ap, ◌∙◌, subst, append_assoc, append-nil}
use Rattle.std.proofs.lemmas.List.{map-append}
use Rattle.sw_outside.specs.Shelf.{KnownShelf, file_of}
use Rattle.sw_check_parts.specs.Course.{Read, AreOf}
use Rattle.sw_check_parts.specs.Leaves.{HasRead, with_requests}

pub AreOf-append : (files : List ℕ → List ℕ) (reads others : List Read) → AreOf files reads
    → AreOf files others → AreOf files (reads ++ others)
AreOf-append files [] others h k = k
AreOf-append files (first ∷ reads) others h k = (h.0, AreOf-append files reads others h.1 k)

pub AreOf-prefix : (files : List ℕ → List ℕ) (reads others : List Read)
    → AreOf files (reads ++ others) → AreOf files reads
AreOf-prefix files [] others h = tt
AreOf-prefix files (first ∷ reads) others h = (h.0, AreOf-prefix files reads others h.1)

pub AreOf-suffix : (files : List ℕ → List ℕ) (reads others : List Read)
    → AreOf files (reads ++ others) → AreOf files others
AreOf-suffix files [] others h = h
AreOf-suffix files (first ∷ reads) others h = AreOf-suffix files reads others h.1

requests-append : (reads others : List Read) (known : KnownShelf)
    → with_requests others (with_requests reads known) ≡ with_requests (reads ++ others) known
requests-append reads others known =
    ap (λ names. record known { requested = names })
    (append_assoc known.requested (map (λ one. one.name) reads) (map (λ one. one.name) others)
    ∙ ap (λ names. known.requested ++ names)
    (sym (map-append (λ (one : Read). one.name) reads others)))

-- nothing was read
pub has_read_nothing : (shelf : Option KnownShelf) → HasRead [] shelf shelf
has_read_nothing None = record { of_files = tt; requested = refl }
has_read_nothing (Some known) =
    record {
      of_files = tt;
      requested =
          ap (λ names. Some (record known { requested = names }))
          (sym (append-nil known.requested));
    }

-- after these files, others were read
pub HasRead-append : (reads others : List Read) (before middle after : Option KnownShelf)
    → HasRead reads before middle → HasRead others middle after
    → HasRead (reads ++ others) before after
HasRead-append reads others None middle after h k = record {
  of_files = tt;
  requested = k.requested ∙ ap (option_map (with_requests others)) h.requested;
}
HasRead-append reads others (Some known) middle after h k = record {
  of_files = AreOf-append (file_of known.files) reads others h.of_files
      (subst (λ shelf. IfSome shelf (λ known. AreOf (file_of known.files) others)) h.requested
      k.of_files);
  requested = k.requested ∙ ap (option_map (with_requests others)) h.requested
      ∙ ap Some (requests-append reads others known);
}

-- a shelf whose contents were unknown still has unknown contents
pub stays_unknown : (reads : List Read) (P : Type 0) (before middle : Option KnownShelf)
    → HasRead reads before middle → IfNone middle P → IfNone before P
stays_unknown reads P None middle h p = subst (λ shelf. IfNone shelf P) h.requested p
stays_unknown reads P (Some known) middle h p = tt
