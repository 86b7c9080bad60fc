-- The words that name a call. Assumes nothing.
use Rattle.std.specs.Prelude.{ℕ, cond, List, Some, None, codes, Option}
use Rattle.std.specs.Str.{bytes_eq}
use Rattle.script.specs.declared.names.Name.{Name}
use Rattle.script.specs.declared.names.Name.TheVariants as to

abbrev pub name_of : List ℕ → Option Name
name_of w =
    cond (bytes_eq w (codes "book")) (Some to.Book)
    (cond (bytes_eq w (codes "ring")) (Some to.Ring)
    (cond (bytes_eq w (codes "open")) (Some to.Open)
    (cond (bytes_eq w (codes "draw")) (Some to.Draw)
    (cond (bytes_eq w (codes "seal")) (Some to.Seal)
    (cond (bytes_eq w (codes "void")) (Some to.Void)
    (cond (bytes_eq w (codes "check")) (Some to.Check)
    (cond (bytes_eq w (codes "clear")) (Some to.Clear)
    (cond (bytes_eq w (codes "close")) (Some to.Close)
    (cond (bytes_eq w (codes "tell")) (Some to.Tell)
    (cond (bytes_eq w (codes "owing")) (Some to.Owing) None))))))))))
