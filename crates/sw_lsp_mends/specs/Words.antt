-- The words that may mend a breach.
use Rattle.std.specs.Prelude.{ℕ, ◌==◌, if◌then◌else◌, List, ◌++◌, codes, Option, Some, None}
use Rattle.sw_lsp_mends.specs.declared.words.Mend.{Mend}
use Rattle.sw_lsp_mends.specs.declared.words.Mend.TheVariants.{Await, Capture, SendingResult}
use Rattle.sw_lsp_mends.specs.declared.words.Mend.TheVariants.{SendingParameter}

-- what mends a breach of this code, where words do
abbrev pub mend_for : ℕ → Option Mend
mend_for code =
    if code == 502 then Some Await
    else (if code == 603 then Some Capture
    else (if code == 604 then Some SendingResult
    else (if code == 703 then Some SendingParameter
    else (if code == 704 then Some SendingParameter
    else None))))

-- the words, where the breach stands at this word of the text
abbrev pub words_of : Mend → List ℕ → List ℕ
words_of Await word = codes "await"
words_of Capture word = codes "[" ++ (word ++ codes "] in")
words_of SendingResult word = codes "sending"
words_of SendingParameter word = codes "sending"

-- the words with the blank that divides them from what stands there
abbrev pub put_in : Mend → List ℕ → List ℕ
put_in Await word = words_of Await word ++ codes " "
put_in Capture word = codes " " ++ words_of Capture word
put_in SendingResult word = words_of SendingResult word ++ codes " "
put_in SendingParameter word = words_of SendingParameter word ++ codes " "

-- what an edit is called
abbrev pub title_of : Mend → List ℕ → List ℕ
title_of mend word = codes "add `" ++ (words_of mend word ++ codes "`")
