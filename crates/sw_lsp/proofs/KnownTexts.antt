-- The text of a document after one was kept or forgotten.
use Rattle.std.proofs.Common.{◌≡◌, ℕ, Bool, true, false, cond, not, List, [], ◌∷◌, ◌++◌, Option, Some, None}
use Rattle.std.proofs.Common.{bytes_eq, option_map, find, refl, sym, ap, ◌∙◌}
use Rattle.std.proofs.lemmas.Bool.{false≢true}
use Rattle.std.proofs.lemmas.Slice.Eq.{bytes_eq-Decides}
use Rattle.std.specs.Option.{option_or}
use Rattle.sw_lsp.specs.Documents.{KnownDocuments, text_in, with_text, without}

-- texts by which a test may answer
pub same_bytes : (a b : List ℕ) → bytes_eq a b ≡ true → a ≡ b
same_bytes a b e = (bytes_eq-Decides a b).0 e

none_either : (b : Bool) → ◌≡◌ {A = Option (List ℕ)} None (cond b None None)
none_either true = refl
none_either false = refl

-- a document of the address that is left out
left_out : (q b : Bool) (text : List ℕ) (known found : Option (List ℕ)) → q ≡ b
    → found ≡ cond b None known → found ≡ cond b None (cond q (Some text) known)
left_out true b text known found e is = is ∙ rw (sym e) refl
left_out false b text known found e is = is

-- a document of another address
stays : (q b : Bool) (text : List ℕ) (known found : Option (List ℕ)) → (q ≡ true → b ≡ false)
    → found ≡ cond b None known → cond q (Some text) found ≡ cond b None (cond q (Some text) known)
stays true b text known found other is = rw (other refl) refl
stays false b text known found other is = is

module _ (uri of : List ℕ) where
  found_cond : (q : Bool) (d : List ℕ × List ℕ) (o : Option (List ℕ × List ℕ))
      → option_map (λ (x : List ℕ × List ℕ). x.1) (cond q (Some d) o) ≡ cond q (Some d.1) (option_map (λ (x : List ℕ × List ℕ). x.1) o)
  found_cond true d o = refl
  found_cond false d o = refl

  text_in-cons : (d : List ℕ × List ℕ) (ds : KnownDocuments)
      → text_in of (d ∷ ds) ≡ cond (bytes_eq d.0 of) (Some d.1) (text_in of ds)
  text_in-cons d ds = found_cond (bytes_eq d.0 of) d (find (λ x. bytes_eq x.0 of) ds)

  -- which documents are left
  pub text_in-without : (ds : KnownDocuments)
      → text_in of (without uri ds) ≡ cond (bytes_eq uri of) None (text_in of ds)
  text_in-without [] = none_either (bytes_eq uri of)
  text_in-without (d ∷ ds) = by (bytes_eq d.0 uri) refl (text_in-without ds) where
    by : (p : Bool) → bytes_eq d.0 uri ≡ p
        → text_in of (without uri ds) ≡ cond (bytes_eq uri of) None (text_in of ds)
        → text_in of (cond (not p) (d ∷ without uri ds) (without uri ds))
        ≡ cond (bytes_eq uri of) None (text_in of (d ∷ ds))
    by true e rest =
        left_out (bytes_eq d.0 of) (bytes_eq uri of) d.1 (text_in of ds) (text_in of (without uri ds))
        (ap (λ x. bytes_eq x of) (same_bytes d.0 uri e)) rest
        ∙ ap (cond (bytes_eq uri of) None) (sym (text_in-cons d ds))
    by false e rest =
        text_in-cons d (without uri ds)
        ∙ stays (bytes_eq d.0 of) (bytes_eq uri of) d.1 (text_in of ds) (text_in of (without uri ds))
        (λ q. apart (bytes_eq uri of) refl q) rest
        ∙ ap (cond (bytes_eq uri of) None) (sym (text_in-cons d ds))
      where
        apart : (b : Bool) → bytes_eq uri of ≡ b → bytes_eq d.0 of ≡ true → bytes_eq uri of ≡ false
        apart true s q =
            let there : d.0 ≡ uri = same_bytes d.0 of q ∙ sym (same_bytes uri of s) in
            absurd (false≢true (sym e ∙ (bytes_eq-Decides d.0 uri).1 there))
        apart false s q = s

  text_in-append : (ds : KnownDocuments) (d : List ℕ × List ℕ)
      → text_in of (ds ++ d ∷ []) ≡ option_or (text_in of ds) (text_in of (d ∷ []))
  text_in-append [] d = refl
  text_in-append (x ∷ ds) d =
      text_in-cons x (ds ++ d ∷ [])
      ∙ by (bytes_eq x.0 of) (text_in-append ds d)
      ∙ ap (λ o. option_or o (text_in of (d ∷ []))) (sym (text_in-cons x ds)) where
        by : (b : Bool) → text_in of (ds ++ d ∷ []) ≡ option_or (text_in of ds) (text_in of (d ∷ []))
            → cond b (Some x.1) (text_in of (ds ++ d ∷ []))
            ≡ option_or (cond b (Some x.1) (text_in of ds)) (text_in of (d ∷ []))
        by true rest = refl
        by false rest = rest

  kept_last : (b : Bool) (text : List ℕ) (known : Option (List ℕ))
      → option_or (cond b None known) (cond b (Some text) None) ≡ cond b (Some text) known
  kept_last true text known = refl
  kept_last false text None = refl
  kept_last false text (Some x) = refl

  -- a document that was kept
  pub text_in-with : (text : List ℕ) (ds : KnownDocuments)
      → text_in of (with_text uri text ds) ≡ cond (bytes_eq uri of) (Some text) (text_in of ds)
  text_in-with text ds =
      text_in-append (without uri ds) (uri, text)
      ∙ ap (λ o. option_or o (text_in of ((uri, text) ∷ []))) (text_in-without ds)
      ∙ ap (option_or (cond (bytes_eq uri of) None (text_in of ds))) (text_in-cons (uri, text) [])
      ∙ kept_last (bytes_eq uri of) text (text_in of ds)
