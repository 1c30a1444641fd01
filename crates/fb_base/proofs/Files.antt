-- Files in a list, of which the later counts: what a longer list and a longer last file show.
use Rattle.std.proofs.Common.{◌≡◌, ◌≢◌, ℕ, ◌+◌, ◌-◌, ◌<◌, Bool, true, false, if◌then◌else◌, List, [], ◌∷◌, ◌++◌, length, reverse, get_or, set, take, find, Some, refl, ap, sym, ◌∙◌, arith}
use Rattle.std.proofs.lemmas.List.{take_more, take_more_set, take_all, length-set, reverse-append}
use Rattle.std.proofs.lemmas.Grind.{common_steps}
use Rattle.std.proofs.lemmas.Slice.Eq.{bytes_eq-Decides}
use Rattle.std.specs.Prelude.{unwrap_or, option_map}
use Rattle.std.specs.Str.{bytes_eq}
use Rattle.fb_base.specs.MemFiles.{last_of, last_name, LastGrows}

-- the last file is looked at first
pub last_of-push : (files : List (List ℕ × List ℕ)) (file : List ℕ × List ℕ) (name : List ℕ)
    → last_of (files ++ file ∷ []) name ≡ (if bytes_eq file.0 name then Some file.1 else last_of files name)
last_of-push files file name = rw (reverse-append files (file ∷ [])) (by (bytes_eq file.0 name))
  where
    by : (b : Bool) → option_map (λ (f : List ℕ × List ℕ). f.1) (if b then Some file else find (λ f. bytes_eq f.0 name) (reverse files))
        ≡ (if b then Some file.1 else last_of files name)
    by true = refl
    by false = refl

pub last_name-push : (files : List (List ℕ × List ℕ)) (file : List ℕ × List ℕ) → last_name (files ++ file ∷ []) ≡ file.0
last_name-push files file = rw (reverse-append files (file ∷ [])) refl

-- A file written at the last place is the last file.
pub last_grows : (files : List (List ℕ × List ℕ)) (count : ℕ) (file d : List ℕ × List ℕ) (content bytes : List ℕ) → 0 < length files → count ≡ length files
    → file ≡ get_or files (count - 1) d → content ≡ file.1 ++ bytes → LastGrows files (set files (count - 1) (file.0, content)) bytes
last_grows files count file d content bytes some counted at grown = record {
  earlier = take (count - 1) files;
  file = file;
  before = sym (take_all count files (omega (arith, counted))) ∙ ap (λ n. take n files) step ∙ take_more files (count - 1) d inside
      ∙ ap (λ (f : List ℕ × List ℕ). take (count - 1) files ++ f ∷ []) (sym at);
  after = sym (take_all count written (omega (arith, counted, length-set {A = List ℕ × List ℕ} files (count - 1) (file.0, content)))) ∙ ap (λ n. take n written) step
      ∙ take_more_set files (count - 1) (file.0, content) inside ∙ ap (λ c. take (count - 1) files ++ (file.0, c) ∷ []) grown;
}
  where
    written : List (List ℕ × List ℕ)
    written = set files (count - 1) (file.0, content)

    step : count ≡ count - 1 + 1
    step = omega arith

    inside : count - 1 < length files
    inside = omega arith

-- the same name with a longer content, and all other files as before
pub grown_name : (old new : List (List ℕ × List ℕ)) (bytes : List ℕ) → LastGrows old new bytes → last_name new ≡ last_name old
grown_name old new bytes g = rw (g.before, g.after, last_name-push, last_name-push) refl

same_name : (a b : List ℕ) → a ≡ b → bytes_eq a b ≡ true
same_name a b e = grind (arith, common_steps, bytes_eq-Decides a b)

other_name : (a b : List ℕ) → (a ≡ b → ⊥) → bytes_eq a b ≡ false
other_name a b ne = grind (arith, common_steps, bytes_eq-Decides a b)

-- the last file by its own name
pub last_of-own : (earlier : List (List ℕ × List ℕ)) (file : List ℕ × List ℕ) → last_of (earlier ++ file ∷ []) file.0 ≡ Some file.1
last_of-own earlier file = rw (last_of-push, same_name file.0 file.0 refl) refl

-- an earlier file, by its name
pub last_of-other : (earlier : List (List ℕ × List ℕ)) (file : List ℕ × List ℕ) (name : List ℕ) → name ≢ file.0 → last_of (earlier ++ file ∷ []) name ≡ last_of earlier name
last_of-other earlier file name ne = rw (last_of-push, other_name file.0 name (λ e. ne (sym e))) refl

-- the content of the started file is longer by what was put behind it
pub grown_content : (old new : List (List ℕ × List ℕ)) (bytes : List ℕ) → LastGrows old new bytes
    → last_of new (last_name old) ≡ Some (unwrap_or (last_of old (last_name old)) [] ++ bytes)
grown_content old new bytes g = rw (g.before, g.after, last_name-push, last_of-own g.earlier g.file, last_of-own g.earlier (g.file.0, g.file.1 ++ bytes)) refl

pub grown_others : (old new : List (List ℕ × List ℕ)) (bytes : List ℕ) → LastGrows old new bytes
    → (name : List ℕ) → name ≢ last_name old → last_of new name ≡ last_of old name
grown_others old new bytes g name ne = rw (g.before, g.after) (last_of-other g.earlier (g.file.0, g.file.1 ++ bytes) name ne' ∙ sym (last_of-other g.earlier g.file name ne'))
  where
    ne' : name ≢ g.file.0
    ne' e = ne (e ∙ sym (ap last_name g.before ∙ last_name-push g.earlier g.file))

-- an empty file behind the others
pub pushed_name : (old new : List (List ℕ × List ℕ)) (name : List ℕ) → new ≡ old ++ (name, []) ∷ [] → last_name new ≡ name
pushed_name old new name e = rw (e, last_name-push) refl

pub pushed_content : (old new : List (List ℕ × List ℕ)) (name : List ℕ) → new ≡ old ++ (name, []) ∷ [] → last_of new name ≡ Some []
pushed_content old new name e = rw e (last_of-own old (name, []))

pub pushed_others : (old new : List (List ℕ × List ℕ)) (name : List ℕ) → new ≡ old ++ (name, []) ∷ []
    → (other : List ℕ) → other ≢ name → last_of new other ≡ last_of old other
pushed_others old new name e other ne = rw e (last_of-other old (name, []) other ne)
