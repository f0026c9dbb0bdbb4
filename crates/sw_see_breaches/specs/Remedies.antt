-- What usually mends a breach, by its code.
use Rattle.std.specs.Prelude.{ℕ, List, [], ◌∷◌, Option, codes}
use Rattle.sw_breach.specs.Codes.{text_in}

-- the remedy of each code
unfoldable pub remedies : List (ℕ × List ℕ)
remedies =
    (101, codes "save the file as UTF-8.")
    ∷ (102, codes "close the comment, or write it with `//`.")
    ∷ (103, codes "use a smaller number.")
    ∷ (104, codes "leave the character out.")
    ∷ (105, codes "shorten the program.")
    ∷ (201, codes "compare the construct with the grammar.")
    ∷ (202, codes "give an inner expression to a variable, or put inner statements into a function.")
    ∷ (301, codes "give one of the two another name.")
    ∷ (302, codes "declare the type, or use another one.")
    ∷ (303, codes "make one of the types a class.")
    ∷ (304, codes "add an entry, or remove the second one.")
    ∷ (305, codes "write a value, as `var count = 0`, or let the initialiser assign it.")
    ∷ (306, codes "write the type.")
    ∷ (307, codes "put some parts into a class, which counts as one part.")
    ∷ (401, codes "declare the name before it is used, or correct it.")
    ∷ (402, codes "give a value of the expected type, or declare another type.")
    ∷ (403, codes "write the labels as the declaration has them.")
    ∷ (404, codes "declare a `var`, or copy the value into one.")
    ∷ (405, codes "write the arm that is missing, or `default`.")
    ∷ (406, codes "end the body with a `return`, or with an `if` whose last part is an `else`.")
    ∷ (407, codes "correct the word, or declare the member.")
    ∷ (408, codes "leave the loop in the body that has it.")
    ∷ (501, codes "make the body `async`, and put an `await` before the use.")
    ∷ (502, codes "put an `await` at the beginning of the expression or of the argument.")
    ∷ (503, codes "make the function `async`, or put the call into a `Task { .. }`.")
    ∷ (504, codes "let a method of the actor assign it, and call that with `await`.")
    ∷ (505, codes "put a global actor before the variable, and before the functions that use it.")
    ∷ (510, codes "divide the body into several functions.")
    ∷ (511, codes "divide the body into several functions.")
    ∷ (601, codes "give the type Sendable parts, and a class `let`s alone.")
    ∷ (602, codes "capture a Sendable part of the value.")
    ∷ (603, codes "list the variable, as `{ [n] in .. }`.")
    ∷ (604, codes "put `sending` before the result, if the actor doesn't keep it.")
    ∷ (605, codes "let the task give a result of Sendable parts.")
    ∷ (606, codes "let a method of the actor read it, and give what is wanted.")
    ∷ (701, codes "use the value before it is given away, or let the task give back what is wanted.")
    ∷ (702, codes "give away what is Sendable in it.")
    ∷ (703, codes "put `sending` before the parameter.")
    ∷ (704, codes "return a new object, or put `sending` before the parameter that is returned.")
    ∷ []

-- what mends a breach of a code
unfoldable pub remedy_of : ℕ → Option (List ℕ)
remedy_of code = text_in remedies code
