-- What the page of codes says of a code.
use Rattle.std.specs.Prelude.{ℕ, ◌==◌, List, [], ◌∷◌, ◌++◌, Option, Some, None, codes, map, if◌then◌else◌}
use Rattle.std.specs.Prelude.{option_and_then}
use Rattle.std.specs.Fmt.{decimal}
use Rattle.sw_lsp_findings.specs.declared.sections.TheConstants.{HEADINGS, MENDS, RULES}

-- what the first row of a code has
abbrev pub found_in : {A : Type 0} → List (ℕ × A) → ℕ → Option A
found_in [] code = None
found_in (row ∷ rows) code = if row.0 == code then Some row.1 else found_in rows code

abbrev pub pair : List ℕ → List ℕ → List ℕ × List ℕ
pair title anchor = (title, anchor)

-- the title of the section of a code, and the part of an address that leads to it
unfoldable pub heading_of : ℕ → Option (List ℕ × List ℕ)
heading_of code = found_in (map (λ row. (row.0, pair row.1.now row.2.now)) HEADINGS) code

-- the rule of a code, and what mends a breach of it
unfoldable pub rule_of : ℕ → Option (List ℕ)
rule_of code = found_in (map (λ row. (row.0, row.1.now)) RULES) code

unfoldable pub mend_of : ℕ → Option (List ℕ)
mend_of code = found_in (map (λ row. (row.0, row.1.now)) MENDS) code

infixl 10 ◌>>=◌
abbrev pub ◌>>=◌ : {A B : Type 0} → Option A → (A → Option B) → Option B
o >>= f = option_and_then f o

-- the address of the section of a code, if the page has an address
abbrev pub address_of : Option (List ℕ) → ℕ → Option (List ℕ)
address_of pages code = do
  address ← pages
  heading ← heading_of code
  Some (address ++ (codes "#" ++ heading.1))

-- an empty line of Markdown
abbrev pub break : List ℕ
break = 10 ∷ 10 ∷ []

-- what is known of a code, as a text in Markdown
abbrev pub explained : ℕ → Option (List ℕ)
explained code = do
  heading ← heading_of code
  rule ← rule_of code
  mend ← mend_of code
  Some (codes "**E" ++ (decimal code ++ (codes ": " ++ (heading.0 ++ (codes "**" ++ (break
      ++ (codes "**Rule:** " ++ (rule ++ (break ++ (codes "**Mend:** " ++ mend))))))))))
