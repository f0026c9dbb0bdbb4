-- First mentions, found in several steps.
use Rattle.std.proofs.Common.{◌≡◌, ℕ, Bool, true, false, List, [], ◌∷◌, ◌++◌, length, take, refl}
use Rattle.std.proofs.Common.{sym, ◌∙◌, ap, append_assoc, map}
use Rattle.std.specs.Prelude.{nat_lt, if◌then◌else◌}
use Rattle.std.proofs.lemmas.List.{append-nil}
use Rattle.std.proofs.lemmas.List.Elements.{filter-append}
use Rattle.std.proofs.Math.Seq.{take-append_seam}
use Rattle.sw_isolation_rules.specs.Captures.{captured, firsts, firsts_from, is_among, outer}
use Rattle.sw_isolation_rules.specs.Captures.{self_first, variables}
use Rattle.sw_isolation_rules.specs.declared.note.Mention.{Mention}
use Rattle.sw_isolation_rules.specs.declared.note.Note.{Note}
use Rattle.sw_isolation_rules.specs.declared.note.Note.TheVariants.{Mentioned}

abbrev found_with : List Mention → Mention → List Mention
found_with found one =
    if is_among (variables found) one.variable then found else found ++ one ∷ []

firsts_more : (found xs ys : List Mention)
    → firsts_from found (xs ++ ys) ≡ firsts_from (firsts_from found xs) ys
firsts_more found [] ys = refl
firsts_more found (x ∷ xs) ys = firsts_more (found_with found x) xs ys

-- the mentions of a closure in two parts
pub firsts_of_both : (closure : ℕ) (found xs ys : List Mention)
    → firsts_from found (outer closure (xs ++ ys))
    ≡ firsts_from (firsts_from found (outer closure xs)) (outer closure ys)
firsts_of_both closure found xs ys =
    ap (firsts_from found) (filter-append (λ (one : Mention). nat_lt one.variable closure) xs ys)
    ∙ firsts_more found (outer closure xs) (outer closure ys)

-- what was found stays first
grown : (found mentions : List Mention)
    → (rest : List Mention) × (firsts_from found mentions ≡ found ++ rest)
grown found [] = ([], sym (append-nil found))
grown found (one ∷ more) =
    by (is_among (variables found) one.variable)
    (λ b. grown (if b then found else found ++ one ∷ []) more)
  where
    by : (b : Bool)
        → ((b : Bool) → (rest : List Mention)
        × (firsts_from (if b then found else found ++ one ∷ []) more
        ≡ (if b then found else found ++ one ∷ []) ++ rest))
        → (rest : List Mention)
        × (firsts_from (if b then found else found ++ one ∷ []) more ≡ found ++ rest)
    by true later = later true
    by false later =
        let last = later false in
        (one ∷ last.0, last.1 ∙ append_assoc found (one ∷ []) last.0)

pub found_first_stays : (found mentions : List Mention)
    → take (length found) (firsts_from found mentions) ≡ found
found_first_stays found mentions =
    let more = grown found mentions in
    ap (take (length found)) more.1 ∙ take-append_seam found more.0

-- What is noted of a closure, one part after the other.
in_parts : (closure : ℕ) (listed me : List ℕ) (inside held own next : List Mention)
    (old others first second third : List Note)
    → first ≡ old ++ others → own ≡ firsts (outer closure inside)
    → next ≡ firsts_from own (outer closure held)
    → second ≡ first ++ map (captured closure listed) (self_first me next)
    → third ≡ second ++ map Mentioned (take (length own) next)
    → third ≡ old ++ (others
    ++ map (captured closure listed) (self_first me (firsts (outer closure (inside ++ held))))
    ++ map Mentioned (firsts (outer closure inside)))
in_parts closure listed me inside held own next old others first second third
    is_first is_own is_next is_second is_third =
    is_third ∙ (ap (λ list. second ++ map Mentioned list) (found_first ∙ is_own)
    ∙ (ap (λ list. list ++ map Mentioned (firsts (outer closure inside))) captures
    ∙ (append_assoc (old ++ others) (map (captured closure listed) (self_first me all))
    (map Mentioned (firsts (outer closure inside)))
    ∙ (append_assoc old others (map (captured closure listed) (self_first me all)
    ++ map Mentioned (firsts (outer closure inside)))
    ∙ ap (λ list. old ++ list) (sym (append_assoc others
    (map (captured closure listed) (self_first me all))
    (map Mentioned (firsts (outer closure inside)))))))))
  where
    all : List Mention
    all = firsts (outer closure (inside ++ held))

    is_all : next ≡ all
    is_all =
        is_next ∙ (ap (λ found. firsts_from found (outer closure held)) is_own
        ∙ sym (firsts_of_both closure [] inside held))

    found_first : take (length own) next ≡ own
    found_first = ap (take (length own)) is_next ∙ found_first_stays own (outer closure held)

    captures : second ≡ (old ++ others) ++ map (captured closure listed) (self_first me all)
    captures =
        is_second ∙ (ap (λ list. list ++ map (captured closure listed) (self_first me next))
        is_first ∙ ap (λ list. (old ++ others) ++ map (captured closure listed)
        (self_first me list)) is_all)

-- The same where the list of what is taken was lent twice, and the number of the closure's own
-- first mentions was kept.
pub closed_in_parts : (closure : ℕ) (listed me : List ℕ)
    (inside held own next seen again : List Mention) (count : ℕ)
    (old others first second third : List Note)
    → first ≡ old ++ others → own ≡ firsts (outer closure inside) → count ≡ length own
    → next ≡ firsts_from own (outer closure held) → seen ≡ next
    → second ≡ first ++ map (captured closure listed) (self_first me seen) → again ≡ next
    → third ≡ second ++ map Mentioned (take count again)
    → third ≡ old ++ (others
    ++ map (captured closure listed) (self_first me (firsts (outer closure (inside ++ held))))
    ++ map Mentioned (firsts (outer closure inside)))
closed_in_parts closure listed me inside held own next seen again count old others first second
    third is_first is_own is_count is_next is_seen is_second is_again is_third =
    in_parts closure listed me inside held own next old others first second third
    is_first is_own is_next
    (is_second ∙ ap (λ list. first ++ map (captured closure listed) (self_first me list)) is_seen)
    (is_third ∙ (ap (λ n. second ++ map Mentioned (take n again)) is_count
    ∙ ap (λ list. second ++ map Mentioned (take (length own) list)) is_again))
