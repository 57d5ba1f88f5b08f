-- THE VERSION of the library, and the size in bytes of each struct of the header.
use Rattle.std.specs.Prelude.{ℕ, List, [], ◌∷◌}

-- the major version times 10,000, plus the minor times 100, plus the patch
abbrev pub version_number : ℕ
version_number = 30000

-- the size of each struct, in the order of the header's enum hmcs_struct; 0 if there is none
abbrev pub struct_sizes : List ℕ
struct_sizes =
    460 ∷ 7944 ∷ 8 ∷ 16 ∷ 7952 ∷ 7960 ∷ 7976 ∷ 7984 ∷ 16 ∷ 24 ∷ 16 ∷ 472 ∷ 480 ∷ 24 ∷ 16 ∷ 7984 ∷ 7968 ∷ 0 ∷ 0 ∷ 0 ∷ 0 ∷ 0 ∷ 0 ∷ 0 ∷ 0 ∷ 0 ∷ 0 ∷ 0 ∷ 0 ∷ 0 ∷
    0 ∷ 0 ∷ []
