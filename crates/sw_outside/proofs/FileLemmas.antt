-- The index of a file by its name, and the files after one was added.
use Rattle.std.proofs.Common.{◌≡◌, ◌≢◌, ℕ, ◌<◌, ◌≤◌, ◌⊎◌, inl, inr, Bool, true, false, cond, ltb}
use Rattle.std.proofs.Common.{List, [], ◌∷◌, ◌++◌, length, get_or, Option, Some, None, IfSome}
use Rattle.std.proofs.Common.{IfNone, refl, sym, ap, ◌∙◌, set, arith}
use Rattle.std.proofs.lemmas.Bool.Decides.{nat_tests}
use Rattle.std.proofs.lemmas.Slice.Eq.{bytes_eq-Decides}
use Rattle.std.specs.Str.{bytes_eq}
use Rattle.std.proofs.Math.Numerals.{one-add}
use Rattle.std.specs.List.{position, position_or_len}
use Rattle.sw_outside.specs.Shelf.{Files, find_file, file_of, with_file}

-- the index of the file of a name, or the number of the files
abbrev index : Files → List ℕ → ℕ
index files name = position_or_len (λ file. bytes_eq file.0 name) files

-- the file at the index of a name is the one that is found under the name
find_file-there : (files : Files) (name : List ℕ) (d : List ℕ × List ℕ)
    → index files name < length files
    → find_file files name ≡ Some (get_or files (index files name) d).1
unfolding find_file
find_file-there [] name d h = absurd (omega arith)
find_file-there (file ∷ files) name d h =
    by (bytes_eq file.0 name) refl (find_file-there files name d) where
      by : (b : Bool) → bytes_eq file.0 name ≡ b
          → (index files name < length files
          → find_file files name ≡ Some (get_or files (index files name) d).1)
          → find_file (file ∷ files) name ≡ Some
          (get_or (file ∷ files) (index (file ∷ files) name) d).1
      by true e rest = rw e refl
      by false e rest = let k = rw e at h in rw e (rw one-add (rest (omega arith)))

-- where no file has the name, none is found
find_file-missing : (files : Files) (name : List ℕ)
    → length files ≤ index files name → find_file files name ≡ None
unfolding find_file
find_file-missing [] name h = refl
find_file-missing (file ∷ files) name h =
    by (bytes_eq file.0 name) refl (find_file-missing files name) where
      by : (b : Bool) → bytes_eq file.0 name ≡ b
          → (length files ≤ index files name → find_file files name ≡ None)
          → find_file (file ∷ files) name ≡ None
      by true e rest = let k = rw e at h in absurd (omega arith)
      by false e rest = let k = rw e at h in rw e (rest (omega arith))

-- a file of a name that is there is replaced
with_file-there : (files : Files) (name bytes : List ℕ)
    → index files name < length files
    → with_file name bytes files ≡ set files (index files name) (name, bytes)
unfolding with_file
with_file-there [] name bytes h = absurd (omega arith)
with_file-there (file ∷ files) name bytes h =
    by (bytes_eq file.0 name) refl (with_file-there files name bytes) where
      by : (b : Bool) → bytes_eq file.0 name ≡ b
          → (index files name < length files
          → with_file name bytes files ≡ set files (index files name) (name, bytes))
          → with_file name bytes (file ∷ files)
          ≡ set (file ∷ files) (index (file ∷ files) name) (name, bytes)
      by true e rest = rw e refl
      by false e rest =
          let k = rw e at h in
          rw e (rw one-add (ap (λ (l : Files). file ∷ l) (rest (omega arith))))

-- a file of a new name is added at the end
with_file-missing : (files : Files) (name bytes : List ℕ)
    → length files ≤ index files name → with_file name bytes files ≡ files ++ (name, bytes) ∷ []
unfolding with_file
with_file-missing [] name bytes h = refl
with_file-missing (file ∷ files) name bytes h =
    by (bytes_eq file.0 name) refl (with_file-missing files name bytes) where
      by : (b : Bool) → bytes_eq file.0 name ≡ b
          → (length files ≤ index files name → with_file name bytes files ≡ files
          ++ (name, bytes) ∷ [])
          → with_file name bytes (file ∷ files) ≡ (file ∷ files) ++ (name, bytes) ∷ []
      by true e rest = let k = rw e at h in absurd (omega arith)
      by false e rest = let k = rw e at h in
          rw e (ap (λ (l : Files). file ∷ l) (rest (omega arith)))

-- the result of a search by a test
searched : (o : Option ℕ) (n m : ℕ) → o ≡ cond (ltb n m) (Some n) None
    → ((o ≡ Some n) × (n < m)) ⊎ ((o ≡ None) × (m ≤ n))
searched o n m e = by (ltb n m) refl where
  by : (b : Bool) → ltb n m ≡ b → ((o ≡ Some n) × (n < m)) ⊎ ((o ≡ None) × (m ≤ n))
  by true t = inl (e ∙ rw t refl, grind (arith, nat_tests))
  by false t = inr (e ∙ rw t refl, grind (arith, nat_tests))

-- what the result of a search by name says of the files
pub find_file-found : (files : Files) (name : List ℕ) (o : Option ℕ)
    → o ≡ position (λ file. bytes_eq file.0 name) files
    → IfSome o (λ i. (d : List ℕ × List ℕ) → find_file files name ≡ Some (get_or files i d).1)
find_file-found files name o e =
    elim (searched o (index files name) (length files) e) [
      | inl w ↦ rw w.0 (λ d. find_file-there files name d w.1)
      | inr w ↦ rw w.0 tt
    ]

pub find_file-not_found : (files : Files) (name : List ℕ) (o : Option ℕ)
    → o ≡ position (λ file. bytes_eq file.0 name) files → IfNone o (find_file files name ≡ None)
find_file-not_found files name o e =
    elim (searched o (index files name) (length files) e) [
      | inl w ↦ rw w.0 tt
      | inr w ↦ rw w.0 (find_file-missing files name w.1)
    ]

pub with_file-found : (files : Files) (name : List ℕ) (o : Option ℕ)
    → o ≡ position (λ file. bytes_eq file.0 name) files
    → IfSome o (λ i. (bytes : List ℕ) → with_file name bytes files ≡ set files i (name, bytes))
with_file-found files name o e =
    elim (searched o (index files name) (length files) e) [
      | inl w ↦ rw w.0 (λ bytes. with_file-there files name bytes w.1)
      | inr w ↦ rw w.0 tt
    ]

pub with_file-not_found : (files : Files) (name : List ℕ) (o : Option ℕ)
    → o ≡ position (λ file. bytes_eq file.0 name) files
    → IfNone o ((bytes : List ℕ) → with_file name bytes files ≡ files ++ (name, bytes) ∷ [])
with_file-not_found files name o e =
    elim (searched o (index files name) (length files) e) [
      | inl w ↦ rw w.0 tt
      | inr w ↦ rw w.0 (λ bytes. with_file-missing files name bytes w.1)
    ]

-- two names differ
names_differ : (a b : List ℕ) → a ≢ b → bytes_eq a b ≡ false
names_differ a b h = by (bytes_eq a b) refl where
  by : (t : Bool) → bytes_eq a b ≡ t → bytes_eq a b ≡ false
  by true e = absurd (h ((bytes_eq-Decides a b).0 e))
  by false e = e

-- the file that is found under the name of one that was added
pub find_file-with_file : (files : Files) (name bytes : List ℕ)
    → find_file (with_file name bytes files) name ≡ Some bytes
unfolding find_file with_file
find_file-with_file [] name bytes =
    let same : bytes_eq name name ≡ true = (bytes_eq-Decides name name).1 refl in rw same refl
find_file-with_file (file ∷ files) name bytes =
    by (bytes_eq file.0 name) refl (find_file-with_file files name bytes) where
      by : (b : Bool) → bytes_eq file.0 name ≡ b
          → find_file (with_file name bytes files) name ≡ Some bytes
          → find_file (with_file name bytes (file ∷ files)) name ≡ Some bytes
      by true e rest =
          let same : bytes_eq name name ≡ true = (bytes_eq-Decides name name).1 refl in
          rw (e, same) refl
      by false e rest = rw (e, e) rest

-- the files that are found under the other names
pub find_file-with_file_other : (files : Files) (name bytes other : List ℕ)
    → other ≢ name → find_file (with_file name bytes files) other ≡ find_file files other
unfolding find_file with_file
find_file-with_file_other [] name bytes other h =
    let differ : bytes_eq name other ≡ false = names_differ name other (λ e. h (sym e)) in
    rw differ refl
find_file-with_file_other (file ∷ files) name bytes other h =
    by (bytes_eq file.0 name) refl (find_file-with_file_other files name bytes other h)
  where
    by : (b : Bool) → bytes_eq file.0 name ≡ b
        → find_file (with_file name bytes files) other ≡ find_file files other
        → find_file (with_file name bytes (file ∷ files)) other ≡ find_file (file ∷ files) other
    by true e rest =
        let same : file.0 ≡ name = (bytes_eq-Decides file.0 name).0 e in
        let differ : bytes_eq name other ≡ false = names_differ name other (λ q. h (sym q)) in
        let differ_too : bytes_eq file.0 other ≡ false =
        names_differ file.0 other (λ q. h (sym q ∙ same)) in
        rw (e, differ, differ_too) refl
    by false e rest =
        rw e (ap (λ (o : Option (List ℕ)). cond (bytes_eq file.0 other) (Some file.1) o) rest)

-- the file of the name of a file that was added
pub added : (files : Files) (name bytes : List ℕ)
    → file_of (with_file name bytes files) name ≡ bytes
unfolding file_of
added files name bytes = rw find_file-with_file refl

-- the files of the other names
pub others : (files : Files) (name bytes other : List ℕ)
    → other ≢ name → file_of (with_file name bytes files) other ≡ file_of files other
unfolding file_of
others files name bytes other h = rw find_file-with_file_other refl
