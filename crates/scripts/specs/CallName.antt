-- The names of calls.
use Rattle.std.specs.Prelude.{ℕ, cond, List, Some, None, codes, Option}
use Rattle.std.specs.Str.{bytes_eq}
use Rattle.scripts.specs.declared.call_name.CallName.{CallName}
use Rattle.scripts.specs.declared.call_name.CallName.TheVariants.{LogIn, Send, Inquire, HangUp, Open, Close, Post, Sheet}

abbrev pub name_in : List ℕ → Option CallName
name_in word =
    cond (bytes_eq word (codes "login")) (Some LogIn)
    (cond (bytes_eq word (codes "send")) (Some Send)
    (cond (bytes_eq word (codes "inquire")) (Some Inquire)
    (cond (bytes_eq word (codes "hangup")) (Some HangUp)
    (cond (bytes_eq word (codes "open")) (Some Open)
    (cond (bytes_eq word (codes "close")) (Some Close)
    (cond (bytes_eq word (codes "post")) (Some Post)
    (cond (bytes_eq word (codes "sheet")) (Some Sheet)
    None)))))))
