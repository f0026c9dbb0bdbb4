-- The text of a frame.
use Rattle.std.proofs.Common.{◌≡◌, ℕ, List, ◌++◌, length, codes, decimal, sym, ap, ◌∙◌, append_assoc}
use Rattle.sw_lsp_text.specs.Frames.{blank_line}
use Rattle.sw_lsp_text.specs.Sent.{header_of}

pub sent_text : (sent body : List ℕ) (n : ℕ) → n ≡ length body
    → sent ≡ codes "Content-Length: " ++ (decimal n ++ (blank_line ++ body)) → sent ≡ header_of body ++ body
sent_text sent body n is e =
    e
    ∙ ap (λ m. codes "Content-Length: " ++ (decimal m ++ (blank_line ++ body))) is
    ∙ ap (λ xs. codes "Content-Length: " ++ xs) (sym (append_assoc (decimal (length body)) blank_line body))
