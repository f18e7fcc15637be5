mod Auditing
