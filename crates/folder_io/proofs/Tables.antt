-- What an edit of a table's entries does to the map that they are seen as.
use Rattle.std.proofs.Common.{◌≡◌, ◌≢◌, ◌<◌, ◌+◌, take, get_or, ℕ, refl, sym, ap, ◌∙◌, Bool, true, false, not, cond, List, [], ◌∷◌, ◌++◌, map, string_bytes, nat_eq, arith, length}
use Rattle.std.specs.Prelude.{String, Vec, None, Some, Option}
use Rattle.std.specs.Global.{Global}
use Rattle.std.specs.List.{zip}
use Rattle.std.specs.Ordering.{nat_cmp, eq_by_cmp}
use Rattle.std.specs.Cmp.Lexicographic.{slice_cmp, pointwise, texts_ties, nat_list_cmp_total}
use Rattle.std.specs.FinMap as finite
use Rattle.std.specs.FinMap.Entries.{find}
use Rattle.std.specs.FinMap.{slice_cmp-IsAntisymmetric, nat_cmp-IsAntisymmetric}
use Rattle.std.proofs.lemmas.List.{get_or-map, map_push, length-take, length-map, take_more}
use Rattle.std.proofs.lemmas.Slice.Eq.{bytes_eq-Decides}
use Rattle.folder_io.specs.Names.{Files, held_at, entry_bytes, without, SameBut}

-- two names tie in the order exactly where they are equal
same_name : (x y : List ℕ) → eq_by_cmp (slice_cmp nat_cmp) x y ≡ true → x ≡ y
same_name x y e = (bytes_eq-Decides x y).0 (texts_ties x y ∙ e)

ties_itself : (x : List ℕ) → eq_by_cmp (slice_cmp nat_cmp) x x ≡ true
ties_itself x = sym (texts_ties x x) ∙ (bytes_eq-Decides x x).1 refl

other_name : (x y : List ℕ) → x ≢ y → eq_by_cmp (slice_cmp nat_cmp) x y ≡ false
other_name x y apart = elim (eq_by_cmp (slice_cmp nat_cmp) x y) as (λ b. eq_by_cmp (slice_cmp nat_cmp) x y ≡ b → b ≡ false) [
  | true ↦ λ e. absurd (apart (same_name x y e))
  | false ↦ λ e. refl
] refl

same_step : {A : Type 0} (kept rest : Option A) (v : A) (b c : Bool) → b ≡ c → kept ≡ cond b None rest → kept ≡ cond b None (cond c (Some v) rest)
same_step kept rest v true c e k = k
same_step kept rest v false true e k = absurd (cc)
same_step kept rest v false false e k = k

other_step : {A : Type 0} (kept rest : Option A) (v : A) (b c : Bool) → (c ≡ true → b ≡ true → ⊥) → kept ≡ cond b None rest → cond c (Some v) kept ≡ cond b None (cond c (Some v) rest)
other_step kept rest v true true apart k = absurd (apart refl refl)
other_step kept rest v true false apart k = k
other_step kept rest v false true apart k = refl
other_step kept rest v false false apart k = k

either_way : {A : Type 0} (o : Option A) (b : Bool) → o ≡ cond b o o
either_way o true = refl
either_way o false = refl

false_is_not_true : (b : Bool) → b ≡ false → b ≡ true → ⊥
false_is_not_true b f t = cc

-- a look-up in the entries of every other name finds what it found, but at that name nothing
find-without : (q name : List ℕ) (entries : List (String Global × Vec ℕ Global))
    → find (slice_cmp nat_cmp) q (map entry_bytes (without name entries)) ≡ cond (eq_by_cmp (slice_cmp nat_cmp) q name) None (find (slice_cmp nat_cmp) q (map entry_bytes entries))
find-without q name [] = either_way None (eq_by_cmp (slice_cmp nat_cmp) q name)
find-without q name (e ∷ es) =
    let before = find-without q name es in
    elim (pointwise nat_eq (string_bytes e.0) name)
    as (λ b. pointwise nat_eq (string_bytes e.0) name ≡ b
    → find (slice_cmp nat_cmp) q (map entry_bytes (cond (not b) (e ∷ without name es) (without name es)))
    ≡ cond (eq_by_cmp (slice_cmp nat_cmp) q name) None (find (slice_cmp nat_cmp) q (map entry_bytes (e ∷ es)))) [
      | true ↦ λ same. same_step _ _ _ _ _ (ap (λ (k : List ℕ). eq_by_cmp (slice_cmp nat_cmp) q k) (sym ((bytes_eq-Decides (string_bytes e.0) name).0 same))) before
      | false ↦ λ differ. other_step _ _ _ _ _ (λ here there.
          false_is_not_true _ differ ((bytes_eq-Decides (string_bytes e.0) name).1 (sym (same_name q (string_bytes e.0) here) ∙ same_name q name there))) before
    ] refl

-- the entries of every other name are seen as the map without that name
pub removed : (name : List ℕ) (entries : List (String Global × Vec ℕ Global))
    → finite.from_entries {R = slice_cmp nat_cmp} (map entry_bytes (without name entries)) ≡ finite.remove (finite.from_entries {R = slice_cmp nat_cmp} (map entry_bytes entries)) name
removed name entries = finite.same_map nat_list_cmp_total (slice_cmp-IsAntisymmetric nat_cmp-IsAntisymmetric) _ _
    (λ q. finite.get-from_entries nat_list_cmp_total _ q ∙ find-without q name entries
    ∙ ap (cond (eq_by_cmp (slice_cmp nat_cmp) q name) None) (sym (finite.get-from_entries nat_list_cmp_total (map entry_bytes entries) q))
    ∙ sym (finite.get-remove nat_list_cmp_total _ name q))

shadowed : {A : Type 0} (b : Bool) (x y z : A) → cond b x (cond b y z) ≡ cond b x z
shadowed true x y z = refl
shadowed false x y z = refl

-- to put bytes under a name that was removed is to put them in place of what it held
pub insert_again : (files : Files) (name bytes : List ℕ) → finite.insert (finite.remove files name) name bytes ≡ finite.insert files name bytes
insert_again files name bytes = finite.same_map nat_list_cmp_total (slice_cmp-IsAntisymmetric nat_cmp-IsAntisymmetric) _ _
    (λ q. finite.get-insert nat_list_cmp_total _ name bytes q ∙ ap (cond (eq_by_cmp (slice_cmp nat_cmp) q name) (Some bytes)) (finite.get-remove nat_list_cmp_total files name q)
    ∙ shadowed (eq_by_cmp (slice_cmp nat_cmp) q name) (Some bytes) None (finite.get files q) ∙ sym (finite.get-insert nat_list_cmp_total files name bytes q))

-- the same where the name was removed from the entries
pub put_again : (name bytes : List ℕ) (entries : List (String Global × Vec ℕ Global))
    → finite.insert (finite.from_entries {R = slice_cmp nat_cmp} (map entry_bytes (without name entries))) name bytes ≡ finite.insert (finite.from_entries {R = slice_cmp nat_cmp} (map entry_bytes entries)) name bytes
put_again name bytes entries = ap (λ (m : Files). finite.insert m name bytes) (removed name entries) ∙ insert_again _ name bytes

-- what a table holds under a name is what a look-up in its entries finds
pub held_listed : (entries : List (String Global × Vec ℕ Global)) (name : List ℕ)
    → held_at (finite.from_entries (map entry_bytes entries)) name ≡ find (slice_cmp nat_cmp) name (map entry_bytes entries)
held_listed entries name = finite.get-from_entries nat_list_cmp_total (map entry_bytes entries) name

-- a removal leaves every other name as it was
pub same_but_removed : (files : Files) (name : List ℕ) → SameBut name files (finite.remove files name)
same_but_removed files name other apart = finite.get-remove nat_list_cmp_total files name other ∙ ap (λ b. cond b None (finite.get files other)) (other_name other name apart)

-- and so does a put
pub same_but_inserted : (files : Files) (name bytes : List ℕ) → SameBut name files (finite.insert files name bytes)
same_but_inserted files name bytes other apart = finite.get-insert nat_list_cmp_total files name bytes other ∙ ap (λ b. cond b (Some bytes) (finite.get files other)) (other_name other name apart)

-- the name that was put holds the bytes
pub held_inserted : (files : Files) (name bytes : List ℕ) → held_at (finite.insert files name bytes) name ≡ Some bytes
held_inserted files name bytes = finite.get-insert nat_list_cmp_total files name bytes name ∙ ap (λ b. cond b (Some bytes) (finite.get files name)) (ties_itself name)

-- the name that was removed holds nothing
pub held_removed : (files : Files) (name : List ℕ) → held_at (finite.remove files name) name ≡ None
held_removed files name = finite.get-remove nat_list_cmp_total files name name ∙ ap (λ b. cond b None (finite.get files name)) (ties_itself name)

-- one more pair of two lists that are walked together
pub zip_more : {A B : Type 0} (xs : List A) (ys : List B) (x : A) (y : B) → length xs ≡ length ys → zip (xs ++ x ∷ []) (ys ++ y ∷ []) ≡ zip xs ys ++ (x, y) ∷ []
zip_more [] [] x y e = refl
zip_more [] (b ∷ ys) x y e = absurd (omega arith)
zip_more (a ∷ xs) [] x y e = absurd (omega arith)
zip_more (a ∷ xs) (b ∷ ys) x y e = ap (λ l. (a, b) ∷ l) (zip_more xs ys x y (omega arith))

-- where the first entry that is left has the name, its bytes are what is held
pub found_here : (held : Option (List ℕ)) (name text bytes : List ℕ) (entry : String Global × Vec ℕ Global) (left rest : List (String Global × Vec ℕ Global))
    → held ≡ find (slice_cmp nat_cmp) name (map entry_bytes left) → left ≡ entry ∷ rest
    → text ≡ string_bytes entry.0 → pointwise nat_eq text name ≡ true → bytes ≡ entry.1.items → Some bytes ≡ held
found_here held name text bytes entry left rest before parts is same here =
    let key : name ≡ string_bytes entry.0 = sym ((bytes_eq-Decides text name).0 same) ∙ is in
    ap Some here
    ∙ sym (ap (λ b. cond b (Some entry.1.items) (find (slice_cmp nat_cmp) name (map entry_bytes rest))) (ap (λ (k : List ℕ). eq_by_cmp (slice_cmp nat_cmp) name k) (sym key) ∙ ties_itself name))
    ∙ sym (before ∙ ap (λ (es : List (String Global × Vec ℕ Global)). find (slice_cmp nat_cmp) name (map entry_bytes es)) parts)

-- and where it has another name, what is held is found in the rest
pub not_here : (held : Option (List ℕ)) (name text : List ℕ) (entry : String Global × Vec ℕ Global) (left rest : List (String Global × Vec ℕ Global))
    → held ≡ find (slice_cmp nat_cmp) name (map entry_bytes left) → left ≡ entry ∷ rest
    → text ≡ string_bytes entry.0 → pointwise nat_eq text name ≡ false → held ≡ find (slice_cmp nat_cmp) name (map entry_bytes rest)
not_here held name text entry left rest before parts is differ =
    before ∙ ap (λ (es : List (String Global × Vec ℕ Global)). find (slice_cmp nat_cmp) name (map entry_bytes es)) parts
    ∙ ap (λ b. cond b (Some entry.1.items) (find (slice_cmp nat_cmp) name (map entry_bytes rest)))
    (other_name name (string_bytes entry.0) (λ same. false_is_not_true _ differ ((bytes_eq-Decides text name).1 (is ∙ sym same))))

-- one more entry, a copy of the name and the file at the next place
pub one_more_entry : (entries grown : List (String Global × Vec ℕ Global)) (name : String Global) (bytes : Vec ℕ Global)
    (names : List (String Global)) (files : List (Vec ℕ Global)) (k : ℕ) (named : String Global) (filed : Vec ℕ Global)
    → map entry_bytes entries ≡ zip (take k (map string_bytes names)) (take k (map (λ v. v.items) files))
    → grown ≡ entries ++ (name, bytes) ∷ [] → k < length names → length names ≡ length files
    → named ≡ get_or names k named → filed ≡ get_or files k filed → string_bytes name ≡ string_bytes named → bytes.items ≡ filed.items
    → map entry_bytes grown ≡ zip (take (k + 1) (map string_bytes names)) (take (k + 1) (map (λ v. v.items) files))
one_more_entry entries grown name bytes names files k named filed so_far is below same_length at_k file_at_k copied cloned =
    let name_bytes : String Global → List ℕ = string_bytes in
    let file_bytes : Vec ℕ Global → List ℕ = λ v. v.items in
    let below_names : k < length (map name_bytes names) = omega (arith, length-map names name_bytes) in
    let below_files : k < length (map file_bytes files) = omega (arith, length-map files file_bytes) in
    let name_at : get_or (map name_bytes names) k (string_bytes named) ≡ string_bytes name
    = get_or-map name_bytes names k named (string_bytes named) below ∙ ap name_bytes (sym at_k) ∙ sym copied in
    let file_at : get_or (map file_bytes files) k filed.items ≡ bytes.items
    = get_or-map file_bytes files k filed filed.items (omega arith) ∙ ap file_bytes (sym file_at_k) ∙ sym cloned in
    let more_names = take_more (map name_bytes names) k (string_bytes named) below_names ∙ ap (λ (n : List ℕ). take k (map name_bytes names) ++ n ∷ []) name_at in
    let more_files = take_more (map file_bytes files) k filed.items below_files ∙ ap (λ (b : List ℕ). take k (map file_bytes files) ++ b ∷ []) file_at in
    let as_long : length (take k (map name_bytes names)) ≡ length (take k (map file_bytes files))
    = omega (arith, length-take k (map name_bytes names), length-take k (map file_bytes files)) in
    ap (map entry_bytes) is ∙ map_push entry_bytes entries (name, bytes) ∙ ap (λ (es : List (List ℕ × List ℕ)). es ++ (string_bytes name, bytes.items) ∷ []) so_far
    ∙ sym (zip_more _ _ (string_bytes name) bytes.items as_long)
    ∙ sym (ap (λ (l : List (List ℕ)). zip l (take (k + 1) (map file_bytes files))) more_names ∙ ap (zip (take k (map name_bytes names) ++ string_bytes name ∷ [])) more_files)
