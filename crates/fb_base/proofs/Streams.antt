-- What a loop of reads takes from a reader, and a loop of writes gives to a writer.
use Rattle.std.proofs.Common.{◌≡◌, ℕ, ◌-◌, ◌≤◌, List, ◌++◌, None, Some, IfSome, sym, ap, ◌∙◌, subst, append_assoc, append-nil, length, take, drop, take_all, take-append-drop}
use Rattle.std.proofs.lemmas.List.{take_rest, take-append-le}
use Rattle.std.proofs.Math.Seq.{take-append_seam}
use Rattle.std.specs.declared.option.Option.{Option}
use Rattle.std.specs.Io.KnownBytes.{Appends, Consumes, IsAtEnd}
use Rattle.std.proofs.KnownBytes.{Consumes-trans}

-- one read more, which filled the front of a buffer
pub read_more : (a b c : Option (List ℕ)) (before part behind bytes : List ℕ) (n : ℕ) → n ≤ length part → Consumes a b before → Consumes b c (take n part) → bytes ≡ before ++ take n (part ++ behind) → Consumes a c bytes
read_more a b c before part behind bytes n fits p q e =
    subst (Consumes a c) (sym (e ∙ ap (λ l. before ++ l) (take-append-le n part behind fits))) (Consumes-trans a b c before (take n part) p q)

-- as many as are wanted
pub first_wanted : (a b : Option (List ℕ)) (bytes : List ℕ) (most : ℕ) → Consumes a b bytes → length bytes ≡ most → IfSome a (λ left. bytes ≡ take most left)
first_wanted None b bytes most p e = tt
first_wanted (Some xs) None bytes most p e = absurd p
first_wanted (Some xs) (Some ys) bytes most p e = subst (λ n. bytes ≡ take n xs) e (sym (ap (take (length bytes)) p ∙ take-append_seam bytes ys))

-- all that there are
pub first_left : (a b : Option (List ℕ)) (bytes : List ℕ) (most : ℕ) → Consumes a b bytes → IsAtEnd b → length bytes ≤ most → IfSome a (λ left. bytes ≡ take most left)
first_left None b bytes most p end h = tt
first_left (Some xs) None bytes most p end h = absurd p
first_left (Some xs) (Some ys) bytes most p end h = sym (ap (take most) (p ∙ ap (λ l. bytes ++ l) end ∙ append-nil bytes) ∙ take_all most bytes h)

-- one write more
pub write_more : (all done rest : List ℕ) (n : ℕ) → all ≡ done ++ rest → all ≡ (done ++ take n rest) ++ take (length rest - n) (drop n rest)
write_more all done rest n e =
    e ∙ ap (λ l. done ++ l) (sym (take-append-drop n rest)) ∙ sym (append_assoc done (take n rest) (drop n rest)) ∙ ap (λ l. (done ++ take n rest) ++ l) (sym (take_rest rest n))

-- what was written is the front of all
pub front_written : (a b : Option (List ℕ)) (all done rest : List ℕ) → all ≡ done ++ rest → Appends a b done → (n : ℕ) × Appends a b (take n all)
front_written a b all done rest e p = (length done, subst (Appends a b) (sym (ap (take (length done)) e ∙ take-append_seam done rest)) p)
